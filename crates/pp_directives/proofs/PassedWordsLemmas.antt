-- Words of dead text that the lexer passes are pauses.
use Rattle.std.proofs.Common.{◌≡◌, ℕ, zero, suc, Bool, true, false, List, [], ◌∷◌, drop, refl, sym, ap, subst, Option, Some, Ok, Err, ℤ}
use Rattle.std.proofs.lemmas.Bool.{not-true}
use Rattle.pp_lexer.specs.Items.{Lexeme}
use Rattle.pp_lexer.specs.Lexed.{Seen, Lexed, after_first, after_first_item, places_after_first}
use Rattle.pp_lexer.specs.PassedWords.{is_number_sign, is_other_lexeme, begins_other, TakesOthers}
use Rattle.pp_lexer.specs.declared.lexer.item.Token.{Token as LexerToken}
use Rattle.pp_lexer.specs.declared.lexer.item.TokenValue.{TokenValue as LexerTokenValue}
use Rattle.pp_lexer.specs.declared.lexer.item.TokenValue.TheVariants.{Hash}
use Rattle.pp_lexer.specs.declared.rules.Rules.{Rules}
use Rattle.pp_lexer.specs.declared.token.Location.{Location}
use Rattle.pp_model.specs.SourceReader.{Earlier}
use Rattle.pp_macros.specs.declared.blocks.OpenBlock.{OpenBlock}
use Rattle.pp_macros.specs.declared.step.PlacedExit.TheVariants.{Continue}
use Rattle.pp_macros.specs.inner.Defined.{Defined}
use Rattle.pp_macros.specs.inner.LineReading.{next_token}
use Rattle.pp_macros.specs.inner.OpenBlocks.{is_live_among}
use Rattle.pp_macros.specs.inner.Source.{SuspendedText, Source}
use Rattle.pp_macros.specs.inner.SourceLexed.{SourceLexed, HavePlaces}
use Rattle.pp_macros.specs.inner.Unreported.{unreported}
use Rattle.pp_directives.specs.inner.Lined.{AreEnded, ShowErrors}
use Rattle.pp_directives.specs.inner.PlainText.{IsStep, PausesAtNewline, PausesTimes, PassesPauses, TakesOther, TakesOthersEach}
use Rattle.pp_directives.proofs.EndedLemmas.{ended_after}
use Rattle.pp_directives.proofs.ErrorsShownLemmas.{shown_after}
use Rattle.pp_directives.proofs.FurtherLemmas.{further_first}
use Rattle.pp_directives.proofs.SourceActsLemmas.{source_of}
use Rattle.pp_directives.proofs.SourceStepLemmas.{step_passes}
use Rattle.pp_directives.proofs.UnreportedLemmas.{places_after, same_none}

-- the lexer of a source, by its lexer and the place of an error
abbrev pub sourced : Lexed → Option Location → SourceLexed
sourced l place = record {
  rest = l.rest;
  places = l.places;
  over = l.over;
  error_place = place;
  had_comments = l.had_comments;
  at_end = l.at_end;
  spent = l.spent;
  rules = l.rules;
}

-- the token that is taken
record Taken (rest : List Seen) (places : List Location) (place : Option Location) : Type 0 where
  token : LexerToken
  is : next_token rest ≡ Ok (Some token)
  no_hash : is_number_sign token.value ≡ false
  after : after_first_item rest ≡ drop 1 rest
  errors : unreported (after_first_item rest) (places_after_first places) place ≡ unreported rest places place

taken_by : (item : Lexeme) (had : Bool) (rest : List Seen) (p : Location) (places : List Location) (place : Option Location) → is_other_lexeme item ≡ true
    → Taken (record { item = item; had_comments = had } ∷ rest) (p ∷ places) place
taken_by (Ok token) had rest p places place h =
    record { token = token; is = refl; no_hash = not-true _ h; after = refl; errors = refl }
taken_by (Err fault) had rest p places place h = cc

taken_first : (rest : List Seen) (places : List Location) (place : Option Location) → HavePlaces rest places → begins_other rest ≡ true → Taken rest places place
taken_first [] places place h b = cc
taken_first (s ∷ rest) [] place h b = absurd h
taken_first (s ∷ rest) (p ∷ places) place h b = taken_by s.item s.had_comments rest p places place b

-- what the lexer of a source takes
pub others_each : (n : ℕ) (l m : Lexed) (place : Option Location) → l.spent ≡ false → HavePlaces l.rest l.places → TakesOthers n l m
    → TakesOthersEach n (sourced l place) (sourced m place)
others_each zero l m place fresh places t = ap (λ x. sourced x place) t
others_each (suc n) l m place fresh places t =
    let first = taken_first l.rest l.places place places t.0 in (
      sourced (after_first l) place,
      record {
        token = first.token;
        is = first.is;
        no_hash = first.no_hash;
        takes = record { rest = first.after; further = further_first l.over l.rest; spent = fresh };
        errors = first.errors;
      },
      others_each n (after_first l) m place fresh (places_after l.rest l.places places) t.1,
    )

-- what holds of its items still does
pub others_fit : (n : ℕ) (l m : Lexed) → TakesOthers n l m → AreEnded l.rest × ShowErrors l.rest × HavePlaces l.rest l.places
    → AreEnded m.rest × ShowErrors m.rest × HavePlaces m.rest m.places
others_fit zero l m t h = subst (λ x. AreEnded x.rest × ShowErrors x.rest × HavePlaces x.rest x.places) (sym t) h
others_fit (suc n) l m t h = others_fit n (after_first l) m t.1 (ended_after l.rest h.0, shown_after l.rest h.1, places_after l.rest l.places h.2)

pub others_unspent : (n : ℕ) (l m : Lexed) → TakesOthers n l m → m.spent ≡ l.spent
others_unspent zero l m t = ap (λ x. x.spent) t
others_unspent (suc n) l m t = others_unspent n (after_first l) m t.1

no_sign : (value : LexerTokenValue) → is_number_sign value ≡ false → value ≡ Hash → ⊥
no_sign value h e = let bad : is_number_sign value ≡ true = ap is_number_sign e in cc

module _ (rules : Rules) (text : ℕ) (earlier : Earlier) (around : List SuspendedText) (definitions : List Defined) (blocks : List OpenBlock)
    (line_offset : ℤ) (has_text has_directive dead : Bool) (contents : ℕ) (is_dead : is_live_among dead blocks ≡ false) where
  abbrev pub with_lexer : SourceLexed → Source
  with_lexer l = source_of l rules text earlier around definitions blocks line_offset has_text has_directive dead contents

  -- such a token is a pause
  other_pauses : (old new : SourceLexed) → old.spent ≡ false → TakesOther old new → IsStep (with_lexer old) (Err Continue) (with_lexer new)
  other_pauses old new fresh t = record {
    reads = step_passes rules text earlier around definitions blocks line_offset has_text has_directive dead contents old new t.token fresh t.is t.takes is_dead
        (λ e. absurd (no_sign t.token.value t.no_hash e));
    errors = same_none rules.passes_dead_errors _ _ t.errors;
  }

  pub others_pause : (n : ℕ) (old new : SourceLexed) → old.spent ≡ false → TakesOthersEach n old new → PausesTimes n (with_lexer old) (with_lexer new)
  others_pause zero old new fresh t = ap with_lexer t
  others_pause (suc n) old new fresh t =
      (with_lexer t.0, other_pauses old t.0 fresh t.1, others_pause n t.0 new t.1.takes.spent t.2)

-- one pause
pub pauses_once : (old new : Source) → IsStep old (Err Continue) new → (more : ℕ) × PausesTimes (suc more) old new
pauses_once old new step = (0, (new, step, refl))

-- a newline, or nothing
pub newline_pauses : (old : Source) (answer : Bool) (new : Source) → PausesAtNewline old answer new → PassesPauses old answer new
newline_pauses old true new step = pauses_once old new step
newline_pauses old false new same = same
