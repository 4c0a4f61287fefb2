-- The module of converted code does what the code means.
use Rattle.std.proofs.Common.{suc, [], length, refl}
use Rattle.mw_term.specs.Terms.{KernelType, of_ground, to}
use Rattle.mw_ir.specs.Ir.{means}
use Rattle.mw_gen.specs.Generate.{module_with, init_function, call_function, more_functions}
use Rattle.mw_gen.specs.Generation.{CallMeans, GenerationKeepsMeaning}
use Rattle.mw_gen.proofs.Instance.{no_memory, instance_is, keeps_none}
use Rattle.mw_gen.proofs.Correctness.{carries_alone}
use Rattle.mw_gen.proofs.Invocations.{init_at, call_at, init_says, call_says}
use Rattle.mw_gen.proofs.Ranges.{sound, body_fine, body_needs}

pub generation_keeps_meaning : GenerationKeepsMeaning
unfolding means
generation_keeps_meaning v t o k is = record {
  memory = no_memory;
  has_instance = instance_is v t o.slots o.body k;
  empty = keeps_none;
  init =
      λ n. init_says v t (module_with v t o.slots o.body k) (carries_alone v t o.slots o.body k) (sound t o is)
      (length t) o.slots o.body (init_at v t (init_function o.slots o.body) (more_functions k)) refl n n no_memory
      (body_fine t o is) (body_needs t o is) keeps_none;
  call = called k;
}
  where
    called : (k : KernelType) → CallMeans (module_with v t o.slots o.body k) t k
    called (of_ground g) = tt
    called (to s g) =
        λ n h mem r ws len small me. call_says v t (module_with v t o.slots o.body (to s g))
        (carries_alone v t o.slots o.body (to s g)) (sound t o is) s 2 (suc (length t))
        (call_at v t (init_function o.slots o.body) (call_function s) []) refl n n h mem r ws len small me
