-- The words of the logic that the walks of the unsafe functions share.
pub use mathlib.Core.Path.{◌≡◌, refl, sym, ap, subst, ◌∙◌}
pub use Prim.Native.Nat.{ℕ, ◌*◌, ◌<◌, ◌^◌, ◌+◌}
pub use native.Mathlib.Omega.{arith}
pub use mathlib.Core.List.{List, [], ◌∷◌, ◌++◌}
pub use seplogic.Ra.Ura.{Ura}
pub use mir.Syntax.{Fn, named, w64, ty_array}
pub use mir.MapTy.{inst_fn}
pub use mir.Val.{Val, vptr, vint, vunit}
pub use base.Logic.{SProp, ent, never, id⊢}
pub use base.Fml.{Lft, Share, ftrue, flft, Incl-trans, froom, GName, fat, fobs, fbor}
pub use prog.Wp.{Env, Calls, Loops, WpFn, Tables}
pub use types.Logic.{Logic}
pub use contract.Monad.{fact, Fun}
pub use sound.WpLaws.{WpFn-mono, FmC, fm_of}
pub use types.Kit.{Item, ⋆, ‵, raw, ◌⊛◌, later, await, at_ret, ◌$◌, ◌∵◌, !, qed, by, move, keep, use1, use2, split}
pub use types.Kit.{join, fsplit, fsplit3, fjoin, feq_l, suffices, frame, done, flt_l, flt_i, given, learn, rewrite}
pub use types.Kit.{feq_i, fjoin3}
pub use types.Part.{whole, sub}
pub use types.Run.{stop, fld, of_opd, and_then, no_more, first, exec, returns, enter, bin, size_word, align_word}
pub use types.Run.{unit_lit, blocks, size_lit}
pub use types.ByLocal.{alloc_all, pass_all, free_all, look_at, get, get_in, sets, sets_last, is, env, through, take_at}
pub use types.ByLocal.{give_at}
pub use denote.Exit.{yes, no}
pub use denote.RattleType.{RattleType, owns}
pub use denote.Memory.{hidden_shr, mem}
pub use denote.Param.{layout}
pub use denote.RawPtr.{Ptr, in_a_block}
pub use denote.Ref.{Bor, ShrRef, MutBor, MutRef}
pub use denote.Builtin.{RefOf, usize, RefMutOf}
pub use denote.Signature.{plain}
pub use denote.Steps.{nothing, opens, closes}
pub use denote.Triple.Clauses.{Clauses, Ended, closing}
pub use denote.Triple.Entry.{on_entry}
pub use denote.Triple.Spec.{Meets, triple_of}
pub use denote.Triple.Table.{entered, run_framed}
pub use denote.Triple.Walked.{says, needs, Stays, stay_dropped, walk_of, ends_at, Goes-dropped, walk_Meets, stay_ref}
pub use denote.Triple.Walked.{Goes-ref}
pub use Rattle.std_alloc.proofs.VecSteps.Shapes.{after}
pub use Rattle.std_alloc.proofs.RcSteps.{Good, word, word-Good}
pub use lib.ListN.{length, replicate, length-replicate, set, get_or, length-set}
pub use Rattle.std.specs.Prelude.{None, Some}
pub use Rattle.core.proofs.mem.Param.{El, R, elτ}
pub use Rattle.std_alloc.proofs.RawLayout.{as_written, as_raw}
pub use Rattle.mw_region.specs.Ownership.{slots, cells_own, slot}
pub use Rattle.mw_region.proofs.Memory.{step_fits}
pub use Rattle.mw_region.proofs.Memory.{Cr, Bs, sz, mark, Place, word_had, Besides, slot_out, slot_in, filled_within}
pub use prog.Memory.{Memory, align, capped}
pub use prog.Capped.{capped_fits}
pub use prog.Routine.{Routine}
pub use contract.BorrowLft.{◌⊑◌}
pub use denote.Triple.Statement.{Triple}
pub use Rattle.core.proofs.alloc.Calls.{Al, second}
pub use Rattle.core.proofs.slots.Leases.{uncapped, block_ty, block_size, block_align, P}
pub use base.Fraction.{full_share}
pub use denote.Triple.Carry.{spared}
pub use Rattle.mw_region.specs.Places.{IsFilled}
