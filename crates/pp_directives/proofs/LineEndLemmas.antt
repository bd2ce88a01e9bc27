-- A line that isn't read is passed, and its end is found.
use Rattle.std.proofs.Common.{◌≡◌, ◌∙◌, ◌⊎◌, ℕ, Bool, true, false, not, List, [], ◌∷◌, drop, ap, sym, refl, subst, Result, Ok, Err, Option, Some, None}
use Rattle.std.specs.Prelude.{unwrap_or, if◌then◌else◌}
use Rattle.pp_expression.specs.Answers.{◌>>=◌}
use Rattle.pp_lexer.specs.Items.{Lexeme}
use Rattle.pp_lexer.specs.Lexed.{Seen}
use Rattle.pp_lexer.specs.declared.lexer.item.Token.{Token as LexerToken}
use Rattle.pp_model.specs.Conversions.{is_newline}
use Rattle.pp_model.specs.Faults.{is_shown}
use Rattle.pp_model.specs.Moves.{fails}
use Rattle.pp_model.specs.Lines.{ends_line, line_end, line_fault, line_length, newline_start}
use Rattle.pp_model.specs.Places.{Fault}
use Rattle.pp_macros.specs.inner.LineReading.{HasTaken, as_next, next_token, goes_on_after, item_goes_on, line_goes_on, shown_on, passed_line, skipped_line, unless_fault}
use Rattle.pp_macros.specs.inner.SourceLexed.{SourceLexed, unreported_at}
use Rattle.pp_macros.specs.inner.Unreported.{Unreported, IsMet, ReportsNone}
use Rattle.pp_macros.specs.declared.halt.Halt.{Halt}
use Rattle.pp_macros.specs.declared.halt.Halt.TheVariants as halt
use Rattle.pp_directives.specs.inner.LineEnds.{goes_on_by, first_end, passed_end}
use Rattle.pp_directives.specs.inner.PlainText.{PassesBlanks}
use Rattle.pp_directives.specs.inner.ReadingLines.{ReadsPart}
use Rattle.pp_directives.proofs.FurtherLemmas.{GoesFurther, goes_then}
use Rattle.pp_directives.proofs.UnreportedLemmas.{met_none}
use Rattle.pp_directives.proofs.LineReadingLemmas.{skipped_more, skipped_shown, skipped_here}
use Rattle.pp_directives.proofs.ShownLemmas.{later_taken, same_taken, mapped_shown}

-- whether the line goes on after an item that was passed
on_after : (rest : List Seen) (on : Bool) → line_goes_on rest ≡ Ok on → item_goes_on rest ≡ on
on_after [] on e = cc
on_after (s ∷ rest) on e = go s.item e
  where
    go : (item : Lexeme) → goes_on_after item ≡ Ok on → not (ends_line item) ≡ on
    go (Ok token) e = cc
    go (Err fault) e = cc

pub goes_on : (passes : Bool) (rest : List Seen) (on : Bool) → goes_on_by passes rest ≡ Ok on → item_goes_on rest ≡ on
goes_on true rest on e = cc
goes_on false rest on e = on_after rest on e

-- after an item that doesn't end the line, the line ends where it ended
pub end_later : (from : ℕ) (rest after : List Seen) → item_goes_on rest ≡ true → after ≡ drop 1 rest → line_end from after ≡ line_end from rest
end_later from [] after e d = cc
end_later from (s ∷ rest) after e d = rw d (go s.item e)
  where
    by : (newline : Bool) (start : ℕ) → not newline ≡ true
        → line_end from rest ≡ unwrap_or (if newline then Some start else None) (line_end from rest)
    by true start e = cc
    by false start e = refl

    go : (item : Lexeme) → not (ends_line item) ≡ true → line_end from rest ≡ unwrap_or (newline_start item) (line_end from rest)
    go (Ok token) e = by (is_newline token.value) token.location.start e
    go (Err fault) e = refl

pub end_stays : (from : ℕ) (rest : List Seen) → item_goes_on rest ≡ true → first_end from rest ≡ from
end_stays from [] e = cc
end_stays from (s ∷ rest) e = go s.item e
  where
    by : (newline : Bool) (start : ℕ) → not newline ≡ true → unwrap_or (if newline then Some start else None) from ≡ from
    by true start e = cc
    by false start e = refl

    go : (item : Lexeme) → not (ends_line item) ≡ true → unwrap_or (newline_start item) from ≡ from
    go (Ok token) e = by (is_newline token.value) token.location.start e
    go (Err fault) e = refl

-- the item that ends the line is its end
pub end_found : (from : ℕ) (rest : List Seen) → item_goes_on rest ≡ false → line_end from rest ≡ first_end from rest
end_found from [] e = refl
end_found from (s ∷ rest) e = go s.item e
  where
    by : (newline : Bool) (start : ℕ) → not newline ≡ false
        → unwrap_or (if newline then Some start else None) (line_end from rest) ≡ unwrap_or (if newline then Some start else None) from
    by true start e = refl
    by false start e = cc

    go : (item : Lexeme) → not (ends_line item) ≡ false
        → unwrap_or (newline_start item) (line_end from rest) ≡ unwrap_or (newline_start item) from
    go (Ok token) e = by (is_newline token.value) token.location.start e
    go (Err fault) e = cc

-- what is left of the line is passed as the line is
pub passed_more : (passes : Bool) (rest after : List Seen) → goes_on_by passes rest ≡ Ok true → after ≡ drop 1 rest
    → passed_line passes after ≡ passed_line passes rest
passed_more true rest after e d = refl
passed_more false rest after e d = skipped_more rest after e d

skipped_all : (rest : List Seen) → line_goes_on rest ≡ Ok false → skipped_line rest ≡ Ok tt
skipped_all [] e = refl
skipped_all (s ∷ rest) e = go s.item s.had_comments e
  where
    by : (newline : Bool) (later : Option Fault) → ◌≡◌ {A = Result Bool Fault} (Ok (not newline)) (Ok false)
        → ◌≡◌ {A = Result (Unit {0}) Fault} (unless_fault (if newline then None else later) (Ok tt)) (Ok tt)
    by true later e = refl
    by false later e = cc

    go : (item : Lexeme) (had : Bool) → goes_on_after item ≡ Ok false
        → skipped_line (record { item = item; had_comments = had } ∷ rest) ≡ Ok tt
    go (Ok token) had e = by (is_newline token.value) (line_fault rest) e
    go (Err fault) had e = cc

pub passed_all : (passes : Bool) (rest : List Seen) → goes_on_by passes rest ≡ Ok false → passed_line passes rest ≡ Ok tt
passed_all true rest e = refl
passed_all false rest e = skipped_all rest e

-- the line is over
pub passed_whole : (passes : Bool) (from end : ℕ) (first rest : List Seen) → passed_line passes rest ≡ passed_line passes first
    → line_end from rest ≡ line_end from first → goes_on_by passes rest ≡ Ok false → end ≡ first_end from rest → passed_end passes from first ≡ Ok end
passed_whole passes from end first rest whole same e is =
    let found : line_end from first ≡ end = sym same ∙ end_found from rest (goes_on passes rest false e) ∙ sym is in
    ap (λ (r : Result (Unit {0}) Fault). r >>= λ done. Ok (line_end from first)) (sym whole ∙ passed_all passes rest e) ∙ ap (λ (k : ℕ). Ok k) found

-- an error of the lexer on it
skipped_fault : (rest : List Seen) (fault : Fault) → line_goes_on rest ≡ Err fault → skipped_line rest ≡ Err fault
skipped_fault [] fault e = cc
skipped_fault (s ∷ rest) fault e = go s.item s.had_comments e
  where
    go : (item : Lexeme) (had : Bool) → goes_on_after item ≡ Err fault
        → skipped_line (record { item = item; had_comments = had } ∷ rest) ≡ Err fault
    go (Ok token) had e = cc
    go (Err found) had e = cc

pub passed_fault : (passes : Bool) (from : ℕ) (first rest : List Seen) (fault : Fault) → passed_line passes rest ≡ passed_line passes first
    → goes_on_by passes rest ≡ Err fault → passed_end passes from first ≡ Err fault
passed_fault true from first rest fault whole e = cc
passed_fault false from first rest fault whole e =
    ap (λ (r : Result (Unit {0}) Fault). r >>= λ done. Ok (line_end from first)) (sym whole ∙ skipped_fault rest fault e)

pub fault_met : (passes : Bool) (rest : List Seen) (fault : Fault) (old mid new : Unreported) → goes_on_by passes rest ≡ Err fault
    → ReportsNone passes old mid → IsMet fault mid new → IsMet fault old new
fault_met true rest fault old mid new e none met = cc
fault_met false rest fault old mid new e none met = subst (λ (u : Unreported). IsMet fault u new) none met

-- an error that is passed
next_on : (rest : List Seen) (fault : Fault) → ◌≡◌ {A = Result (Option LexerToken) Fault} (next_token rest) (Err fault) → goes_on_by true rest ≡ Ok true
next_on [] fault e = cc
next_on (s ∷ rest) fault e = go s.item e
  where
    go : (item : Lexeme) → ◌≡◌ {A = Result (Option LexerToken) Fault} (as_next item) (Err fault)
        → ◌≡◌ {A = Result Bool Fault} (Ok (not (ends_line item))) (Ok true)
    go (Ok token) e = cc
    go (Err found) e = refl

pub error_on : (passes : Bool) (fault : Fault) (old mid next new : SourceLexed) → passes ≡ true → PassesBlanks old mid → next_token mid.rest ≡ Err fault
    → HasTaken 1 mid next → IsMet fault (unreported_at mid) (unreported_at next) → new ≡ record next { error_place = None }
    → ReadsPart passes {A = Bool} (λ t. t) (goes_on_by passes old.rest) 1 1 old (Ok true) new
error_on passes fault old mid next new passed same e one met others =
    let here : IsMet fault (unreported_at old) (unreported_at next) = subst (λ (u : Unreported). IsMet fault u (unreported_at next)) (ap unreported_at same) met in
    rw (passed, others) (record {
      is = next_on old.rest fault (ap (λ (l : SourceLexed). next_token l.rest) (sym same) ∙ e);
      takes = record {
        rest = one.rest ∙ ap (λ (l : SourceLexed). drop 1 l.rest) same;
        further = subst (λ (l : SourceLexed). GoesFurther l next) same one.further;
        spent = one.spent;
      };
      fault = tt;
      errors = met_none fault (unreported_at old) (unreported_at next) _ here refl;
    })

-- the items that show an error of what is left of the line
item_on : (s : Seen) (items : List Seen) → item_goes_on (s ∷ items) ≡ true → ends_line s.item ≡ false
item_on s items e = by (ends_line s.item) e
  where
    by : (ends : Bool) → not ends ≡ true → ends ≡ false
    by true e = cc
    by false e = refl

passing_shown : (rest after : List Seen) → item_goes_on rest ≡ true → after ≡ drop 1 rest
    → drop (shown_on (passed_line true) after) after ≡ drop (shown_on (passed_line true) rest) rest
passing_shown [] after e d = cc
passing_shown (s ∷ rest) after e d = rw d (sym (later_taken (passed_line true) (passed_line true) s rest (item_on s rest e) (λ items. refl) refl))

pub passed_shown : (passes : Bool) (rest after : List Seen) → goes_on_by passes rest ≡ Ok true → after ≡ drop 1 rest
    → drop (shown_on (passed_line passes) after) after ≡ drop (shown_on (passed_line passes) rest) rest
passed_shown true rest after e d = passing_shown rest after (goes_on true rest true e) d
passed_shown false rest after e d = skipped_shown rest after e d

pub passed_here : (passes : Bool) (rest after : List Seen) (fault : Fault) → goes_on_by passes rest ≡ Err fault → after ≡ drop 1 rest
    → (is_shown (fails fault) ≡ true) ⊎ (after ≡ []) → after ≡ drop (shown_on (passed_line passes) rest) rest
passed_here true rest after fault e d h = cc
passed_here false rest after fault e d h = skipped_here rest after fault e d h

-- where the line ends shows none
pub end_shown : (passes : Bool) (from : ℕ) (rest : List Seen)
    → drop (shown_on (passed_line passes) rest) rest ≡ drop (shown_on (passed_end passes from) rest) rest
end_shown passes from rest =
    same_taken (passed_line passes) (passed_end passes from) (λ items. sym (mapped_shown (λ done. line_end from items) (passed_line passes items))) rest

-- an error of what is left of the line
pub end_fails : (h : Halt) (passes : Bool) (from : ℕ) (start old new : SourceLexed) → passed_line passes old.rest ≡ passed_line passes start.rest
    → drop (shown_on (passed_line passes) old.rest) old.rest ≡ drop (shown_on (passed_end passes from) start.rest) start.rest
    → GoesFurther start old → ReportsNone passes (unreported_at start) (unreported_at old)
    → ReadsPart passes {A = Bool} (λ t. t) (goes_on_by passes old.rest) 1 1 old (Err h) new
    → ReadsPart passes {A = ℕ} (λ t. t) (passed_end passes from start.rest) (line_length start.rest) (shown_on (passed_end passes from) start.rest) start (Err h) new
end_fails (halt.Fault fault) passes from start old new whole shown went none p = record {
  is = passed_fault passes from start.rest old.rest fault whole p.is;
  takes = record {
    rest = passed_here passes old.rest new.rest fault p.is p.takes.rest p.fault ∙ shown;
    further = goes_then start old new went p.takes.further;
    spent = p.takes.spent;
  };
  fault = p.fault;
  errors = fault_met passes old.rest fault (unreported_at start) (unreported_at old) (unreported_at new) p.is none p.errors;
}
end_fails halt.OutOfMemory passes from start old new whole shown went none p = record { is = tt; takes = tt; fault = tt; errors = tt }
