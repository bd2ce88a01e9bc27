-- What `#line` adds to a line changes nothing of what a fault takes.
use Rattle.std.proofs.Common.{◌≡◌, ◌∙◌, ℕ, ℤ, Bool, true, false, drop, refl, ap, Option, Some, None}
use Rattle.pp_model.specs.Blocks.{Truths, is_live}
use Rattle.pp_model.specs.Definitions.{Definitions}
use Rattle.pp_model.specs.Faults.{facts_past, truths_left, definitions_left, after_fault}
use Rattle.pp_model.specs.Moves.{BlockFacts}
use Rattle.pp_model.specs.Sights.{sight_of}
use Rattle.pp_model.specs.SourceReader.{SourceReader}
use Rattle.pp_model.specs.declared.directive.Directive.TheVariants as d
use Rattle.pp_model.specs.declared.sight.Sight.{Sight}
use Rattle.pp_model.specs.declared.sight.Sight.TheVariants as sight

module _ (r : SourceReader) (offset : ℤ) where
  abbrev numbered : SourceReader
  numbered = record r { line_offset = offset }

  same_truths : (facts : Option BlockFacts) (shown : Sight) → truths_left facts shown numbered ≡ truths_left facts shown r
  same_truths None shown = refl
  same_truths (Some block) (sight.Directive d.Elif word) = refl
  same_truths (Some block) (sight.Directive _ word) = refl
  same_truths (Some block) _ = refl

  same_definitions : (live : Bool) (shown : Sight) → definitions_left live shown numbered ≡ definitions_left live shown r
  same_definitions true (sight.Directive d.Undef word) = refl
  same_definitions true (sight.Directive _ word) = refl
  same_definitions true _ = refl
  same_definitions false shown = refl

  -- the reader after the fault, with what `#line` adds
  pub numbered_after : (n : ℕ) → after_fault n numbered ≡ record (after_fault n r) { line_offset = offset }
  numbered_after n =
      ap (λ (truths : Truths). record (after_fault n numbered) { truths = truths }) (same_truths (facts_past n r) (sight_of (drop r.position r.items)))
      ∙ ap (λ (definitions : Definitions). record (after_fault n r) { line_offset = offset; definitions = definitions })
      (same_definitions (is_live r.items r.truths r.position) (sight_of (drop r.position r.items)))
