-- The module of some functions has the shape that a run of its kernel type needs.
use Rattle.std.proofs.Common.{ℕ, suc, [], List, length, refl}
use Rattle.mw_term.specs.Terms.{KernelType, of_ground, to}
use Rattle.mw_meaning.specs.Shapes.{HasShape, HasCall}
use Rattle.mw_ir.specs.Ir.{Ir, IrFunc}
use Rattle.mw_key.specs.declared.version.Version.{Version}
use Rattle.mw_gen.specs.Generate.{init_function, call_function, more_functions, module_with}
use Rattle.mw_gen.proofs.Stores.{store_at}
use Rattle.mw_gen.proofs.Correctness.{table_of}
use Rattle.mw_gen.proofs.Invocations.{init_at, call_at}
use Rattle.mw_gen.proofs.Instance.{no_memory, instance_is}

pub module_shaped : (v : Version) (t : List IrFunc) (slots : ℕ) (body : Ir) (k : KernelType)
    → HasShape (module_with v t slots body k) k
module_shaped v t slots body k = record {
  init = record {
    index = length t;
    is_exported = refl;
    function = init_function slots body;
    is_function =
        init_at v t (init_function slots body) (more_functions k);
    has_type = refl;
  };
  call = has_call k;
  memory = refl;
  store = store_at (table_of t) 0 no_memory;
  has_instance = instance_is v t slots body k;
}
  where
    has_call : (k : KernelType) → HasCall (module_with v t slots body k) k
    has_call (of_ground g) = tt
    has_call (to s r) = record {
      index = suc (length t);
      is_exported = refl;
      function = call_function s;
      is_function =
          call_at v t (init_function slots body) (call_function s) [];
      has_type = refl;
    }
