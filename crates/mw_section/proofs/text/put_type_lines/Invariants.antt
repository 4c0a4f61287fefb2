use Rattle.std.proofs.Common.{◌≡◌, ◌++◌, map, drop}
use Rattle.std.specs.List.{flat_map}
use Rattle.mw_lines.specs.TypeLines.{line_of}
use Rattle.mw_recheck.specs.Texts.{type_text}
use Rattle.mw_recheck.specs.Sections.{FitLines}
use Rattle.mw_section.proofs.text.put_type_lines.Given as goal

-- What is there, and the lines to come, are all of it. All fit where those fit.
abbrev pub invariant-loop-line : goal.invariant-loop-line
invariant-loop-line l =
    record {
      text : l.text.items ++ flat_map type_text (map line_of (drop l.line-index l.lines))
          ≡ l.fn.text.items ++ flat_map type_text (map line_of l.lines);
      fits : FitLines (map line_of (drop l.line-index l.lines)) → FitLines (map line_of l.lines);
    }
