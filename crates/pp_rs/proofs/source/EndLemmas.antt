-- After the end nothing is left.
use Rattle.std.proofs.Common.{◌≡◌, ◌∙◌, ◌⊎◌, inl, inr, true, false, [], refl, sym, subst}
use Rattle.std.specs.Prelude.{Err}
use Rattle.pp_lexer.specs.declared.token.Token.{Token}
use Rattle.pp_macros.specs.Item.{PlacedStep}
use Rattle.pp_macros.specs.inner.Reader.{of_source, ReadsSource, reads, leaves}
use Rattle.pp_macros.specs.inner.Source.{Source, StepsSource}
use Rattle.pp_macros.specs.declared.step.PlacedExit.TheVariants.{Finished}
use Rattle.pp_directives.proofs.TextEndLemmas.{EndsText, ends_text}
use Rattle.pp_rs.specs.inner.Fit.{NothingIn}
use Rattle.pp_rs.proofs.source.UnpaintedLemmas.{unpainted_end}

module _ (old new : Source) (unspent : old.spent ≡ false) where
  none_around : (old.spent ≡ true) ⊎ (old.around ≡ []) → old.around ≡ []
  none_around (inl spent) = let bad : true ≡ false = sym spent ∙ unspent in cc
  none_around (inr none) = none

  nothing_left : EndsText old new → old.around ≡ [] → NothingIn (of_source new)
  nothing_left ended none =
      let over = ended.1 unspent in
      rw ended.0 (over.rest, over.blocks, none)

  -- the end of a source comes after all items and open blocks of all texts
  pub source_end : ReadsSource old (Err Finished) new → NothingIn (of_source new)
  source_end (reads given steps reports outermost is) =
      let end = unpainted_end old.text given (sym is) in
      nothing_left (ends_text old new old.spent refl (subst (λ (step : PlacedStep Token). StepsSource old step new) end steps)) (none_around (outermost end))
  source_end (leaves outer around over is pause after) = cc
