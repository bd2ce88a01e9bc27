-- The parts of a proof by hand about a call: the moves of the walk, and the parts of a loan.
pub use Rattle.std.proofs.Common.{ℕ, [], ◌∷◌, ◌++◌, refl, MutBor}
pub use Rattle.std.proofs.raw_atomic.Walks.{proved}
pub use base.Fraction.{full_share}
pub use base.FractionLaws.{common}
pub use base.Logic.{id⊢, emp, wand, sep, apply∗}
pub use base.Fml.{Lft, Incl, ftrue, flft, fdead}
pub use mir.Syntax.{named, mut, ty_ref, ty_unit}
pub use mir.Val.{vptr}
pub use contract.Monad.{fact, fact_i}
pub use contract.Running.{tables}
pub use contract.BorrowLft.{⊑_meet, ⊑_refl, meet_⊑_left, meet_⊑_right}
pub use types.Kit.{‵, raw, ◌⊛◌, some, later, ◌$◌, ◌∵◌, !, qed, done, move, keep, use0, use1, use2, use3, split, join, fsplit, pick, await, suffices, frame, group}
pub use types.Tokens.{lft_new, lft_end, lft-common}
pub use types.Part.{agg}
pub use types.Run.{enter, addr, stop, no_more, and_then, returns}
pub use types.ByLocal.{alloc_all, pass_all, free_all, look_at, get, through, sets, lands_as}
pub use denote.FnPtr.{vt_lit}
pub use denote.Lend.{lends_again, comes_back, LentAgain}
pub use denote.Ref.{MutRef, mut_vals, mut_Tells, mut_hides}
pub use denote.Param.Table.{MutAny, Includes-none}
pub use denote.Param.Dyn.{wide_val, table_at}
pub use denote.Signature.{plain, named_lft}
pub use denote.Steps.{nothing, heard, peeks}
pub use denote.Triple.Call.{calls_at}
pub use denote.Triple.Clauses.{lasts}
pub use denote.Triple.Spec.{triple_of}
pub use denote.Triple.Walked.{Stays, says, stay_ref, Goes-ref, ends_at}
pub use denote.Triple.Table.{framed}
pub use borrow.Pointer.Hide.{hide_mut}
pub use denote.Laws.{Is, shows}
pub use Rattle.std.specs.Prelude.{◌≡◌, IfOk}
pub use Rattle.pp_macros.specs.inner.Defined.{names_in}
pub use Rattle.pp_macros.specs.inner.Nesting.{AreKnown, MayWait, seen_by}
pub use Rattle.pp_macros.specs.inner.Reader.{of_list}
pub use Rattle.pp_macros.specs.contracts.list_lexer.ListLexer.{the_row as source_row}
pub use Rattle.pp_macros.specs.contracts.macro_processor.MacroProcessor.{the_row as P}
pub use Rattle.pp_macros.specs.contracts.step.PlacedExit.{the_row as exit_row}
pub use Rattle.pp_macros.proofs.step.PlacedExit.TheLaws.{the_row_laws as exit_laws}
pub use Rattle.std.specs.contracts.result.Result.{the_row as result_row}
pub use Rattle.std.proofs.result.Result.TheLaws.{the_row_laws as result_laws}
