use Rattle.std.proofs.Common.{ap, ◌∙◌}
use Rattle.sha2.specs.Sha256.{sha256}
use Rattle.mw_compile.proofs.emission.emit.Goals as goal

pub entry_of-requires : goal.entry_of-requires
entry_of-requires g c = record {
  text = record {
    kernel = record {
      code = c.requires.code;
      closed = c.requires.closed;
      literals = c.in_ok-text.ensures.literals;
      limits = c.requires.limits;
      nodes = c.requires.nodes;
    };
    text = c.in_ok-text.ensures.text;
  };
  digest = c.digest-digest.ensures ∙ ap sha256 c.as_slice.ensures.value;
}
