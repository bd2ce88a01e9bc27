-- What including a text does to a preprocessor.
use Rattle.std.proofs.Common.{◌≡◌, ◌≢◌, ◌∙◌, ◌<◌, ◌≤◌, ◌++◌, ℕ, true, false, List, [], ◌∷◌, length, Option, Some, None, Ok, Err, refl, ap, arith}
use Rattle.std.specs.Prelude.{option_map}
use Rattle.std.proofs.lemmas.Bool.{le-leb, lt-leb}
use Rattle.pp_lexer.specs.declared.rules.Rules.{Rules}
use Rattle.pp_lexer.specs.declared.token.Location.{Location}
use Rattle.pp_model.specs.Places.{unplaced}
use Rattle.pp_model.specs.Reading.{Expander}
use Rattle.pp_model.specs.Run.{items_by}
use Rattle.pp_model.specs.Run as run
use Rattle.pp_model.specs.Onward.{Onward}
use Rattle.pp_rs.specs.Comes.{with_included}
use Rattle.pp_model.specs.SourceReader.{is_full, include_limit}
use Rattle.pp_model.specs.declared.read.Read.{Read}
use Rattle.pp_macros.specs.Item.{PlacedStep}
use Rattle.pp_macros.specs.LexerErrors.{ErrorAt, lexer_errors_by}
use Rattle.pp_macros.specs.inner.Expander as kept
use Rattle.pp_macros.specs.inner.Expander.{outcome_of_step, without_end}
use Rattle.pp_macros.specs.inner.Frames.{Frame}
use Rattle.pp_macros.specs.inner.Reader.{Reader, of_source}
use Rattle.pp_macros.specs.inner.Source.{Source, unreported_of}
use Rattle.pp_macros.specs.inner.Unreported.{Unreported, unreported_with, IsReportedBut}
use Rattle.pp_macros.specs.declared.step.PlacedExit.TheVariants.{Error, Continue, Finished}
use Rattle.pp_directives.specs.inner.Suspending.{including}
use Rattle.pp_rs.specs.Including.{IsInserted, IsIncluded, too_deep, included}
use Rattle.pp_rs.specs.declared.pp.including.IncludeError.TheVariants.{TooDeep}
use Rattle.pp_rs.specs.Kept.{LastItem, Preprocessing, Stands, is_spent, errors_left, error_place, asked_line, from_text, item_text, rules_of}
use Rattle.pp_rs.specs.inner.AllTexts.{all_unreported}
use Rattle.pp_rs.specs.inner.Fit.{EndIsLast, HoldsAsking, IsFit, IsReported}
use Rattle.pp_rs.specs.inner.Stands.{StandsOnward, StandsFor}
use Rattle.pp_rs.proofs.source.AroundLemmas.{as_deep, stands_included}

-- the end is forgotten on both sides
ends_forgotten : (o : Option (PlacedStep Read)) → o ≢ Some (Err Continue)
    → run.without_end (option_map outcome_of_step o) ≡ option_map outcome_of_step (without_end o)
ends_forgotten (Some (Err (Error fault))) goes = refl
ends_forgotten (Some (Err Finished)) goes = refl
ends_forgotten (Some (Err Continue)) goes = absurd (goes refl)
ends_forgotten (Some (Ok read)) goes = refl
ends_forgotten None goes = refl

-- no pause is held then either
goes_without_end : (o : Option (PlacedStep Read)) → o ≢ Some (Err Continue) → without_end o ≢ Some (Err Continue)
goes_without_end (Some (Err (Error fault))) goes is = goes is
goes_without_end (Some (Err Finished)) goes is = cc
goes_without_end (Some (Err Continue)) goes is = goes is
goes_without_end (Some (Ok read)) goes is = goes is
goes_without_end None goes is = goes is

-- the expander over the source that includes the text
abbrev pub forgets_end : kept.Expander → kept.Expander
forgets_end m = record m { held = without_end m.held }

-- each state is now one in which the text was included
stands_included_for : (m : kept.Expander) (source : Source) (text : List ℕ) (e : Expander Onward) → StandsFor m source e
    → StandsFor (forgets_end m) (including text source) (with_included (items_by source.rules text) e)
stands_included_for m source text e s = record {
  held = ap run.without_end s.held ∙ ends_forgotten m.held s.goes;
  list = s.list;
  reader = stands_included source e.reader text s.reader;
  hidden = s.hidden;
  goes = goes_without_end m.held s.goes;
}

-- errors before those that were left
inserted_first : (errors later : List ErrorAt) → IsInserted errors later (errors ++ later)
inserted_first errors later = record { first = []; left = later; at_most_one = omega arith; were = refl; are = refl }

-- the errors of the text come before those that are still to be read
errors_inserted : (o : Option (PlacedStep Read)) (read : Option Location) (errors later : List ErrorAt)
    → IsInserted errors (unreported_with o (record { read = read; later = later }))
    (unreported_with (without_end o) (record { read = read; later = errors ++ later }))
errors_inserted (Some (Err (Error fault))) (Some place) errors later = record {
  first = record { item = unplaced fault; place = place } ∷ [];
  left = later;
  at_most_one = omega arith;
  were = refl;
  are = refl;
}
errors_inserted (Some (Err (Error fault))) None errors later = inserted_first errors later
errors_inserted (Some (Err Finished)) read errors later = inserted_first errors later
errors_inserted (Some (Err Continue)) read errors later = inserted_first errors later
errors_inserted (Some (Ok taken)) read errors later = inserted_first errors later
errors_inserted None read errors later = inserted_first errors later

-- how deep a reader is
full_by : (source : Source) (o : Onward) → StandsOnward source o → include_limit ≤ length source.around → is_full o.reader ≡ true
full_by source o stands full = le-leb include_limit (length o.reader.around) (omega (arith, as_deep stands.reader, full))

room_by : (source : Source) (o : Onward) → StandsOnward source o → length source.around < include_limit → is_full o.reader ≡ false
room_by source o stands room = lt-leb include_limit (length o.reader.around) (omega (arith, as_deep stands.reader, room))

module _ (text : List ℕ) (old : Preprocessing) (ruled : old.source.rules ≡ old.rules) where
  -- the text was included
  pub included_now : length old.source.around < include_limit → (m : kept.Expander) (source : Source) (last : LastItem) → m ≡ forgets_end old.expander
      → source ≡ including text old.source → last ≡ from_text old.last.text
      → IsIncluded old text (Ok tt) (record old { expander = m; source = source; last = last })
  unfolding Stands is_spent errors_left error_place item_text asked_line rules_of
  included_now room m source last is at of = rw (is, at, of) (included refl (record {
    room = λ state stands. room_by old.source state.reader stands.reader room;
    stands = λ state stands. rw (← ruled) (stands_included_for old.expander old.source text state stands);
    spent = refl;
    errors = rw (← ruled) (errors_inserted old.expander.held old.source.error_place (lexer_errors_by old.source.rules text) (all_unreported old.source).later);
    place = refl;
    text_stays = refl;
    answered = refl;
    rules = refl;
  }))

-- there is no room for it
pub full_now : (text : List ℕ) (old : Preprocessing) → include_limit ≤ length old.source.around → IsIncluded old text (Err TooDeep) old
unfolding Stands
full_now text old full =
    too_deep (λ state stands. full_by old.source state.reader stands.reader full) refl refl

-- no end is held any more
no_end_last : (o : Option (PlacedStep Read)) (frames : List Frame) (r : Reader) → EndIsLast (without_end o) frames r
no_end_last (Some (Err (Error fault))) frames r = tt
no_end_last (Some (Err Finished)) frames r = tt
no_end_last (Some (Err Continue)) frames r = tt
no_end_last (Some (Ok read)) frames r = tt
no_end_last None frames r = tt

asks_without_end : (rules : Rules) (o : Option (PlacedStep Read)) → HoldsAsking rules o → HoldsAsking rules (without_end o)
asks_without_end rules (Some (Err (Error fault))) h = h
asks_without_end rules (Some (Err Finished)) h = tt
asks_without_end rules (Some (Err Continue)) h = tt
asks_without_end rules (Some (Ok read)) h = tt
asks_without_end rules None h = tt

reported_without_end : (o : Option (PlacedStep Read)) (old new : Unreported) → new.read ≡ old.read → IsReportedBut o old → IsReportedBut (without_end o) new
reported_without_end (Some (Err (Error fault))) old new same h = tt
reported_without_end (Some (Err Finished)) old new same h = same ∙ h
reported_without_end (Some (Err Continue)) old new same h = same ∙ h
reported_without_end (Some (Ok read)) old new same h = same ∙ h
reported_without_end None old new same h = same ∙ h

-- the expander may go on
pub fit_included : (text : List ℕ) (m : kept.Expander) (source : Source) → IsFit m source → IsFit (forgets_end m) (including text source)
fit_included text m source fit = record {
  unspent = fit.unspent;
  sound = fit.sound;
  last = no_end_last m.held m.frames (of_source (including text source));
  asks = asks_without_end source.rules m.held fit.asks;
}

pub reported_included : (rules : Rules) (text : List ℕ) (m : kept.Expander) (source : Source) → IsReported rules m source
    → IsReported rules (forgets_end m) (including text source)
reported_included rules text m source h =
    (reported_without_end m.held (unreported_of source) (unreported_of (including text source)) refl h.0, h.1)
