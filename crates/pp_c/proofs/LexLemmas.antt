-- The items of the lexer, one after another.
use Rattle.std.proofs.Common.{◌≡◌, ◌≢◌, ◌∙◌, inl, inr, Bool, true, false, List, [], ◌∷◌, ◌++◌, refl, ap, sym, Some, Result, Err, arith, append_assoc}
use Rattle.std.specs.Prelude.{MatchBool}
use Rattle.pp_model.specs.Places.{Fault}
use Rattle.pp_rs.specs.Lexed.{Seen, Lexed, first_item, after_first_item, first_place, places_after_first, IsNext}
use Rattle.pp_rs.specs.PreprocessorError.{out_of_memory}
use Rattle.pp_rs.specs.declared.lexer.Token.{Token}
use Rattle.pp_rs.specs.declared.token.Location.{Location}
use Rattle.pp_c.specs.Lexing.{lexeme_entries, lexed_entries, entries_left}
use Rattle.pp_c.specs.inner.Lexes.{Lexes}
use Rattle.pp_c.specs.inner.Making.{IsSmall}
use Rattle.pp_c.specs.inner.Taking.{Takes}
use Rattle.pp_c.specs.declared.output.Output.{Output}
use Rattle.pp_c.proofs.TakingLemmas.{takes_none, takes_more}

unspent : (spent : Bool) (A B : Type 0) → spent ≡ false → MatchBool spent A B → B
unspent true A B e h = cc
unspent false A B e h = h

-- the first item, and those after it
first_entries : (rest : List Seen) (places : List Location) (last : Location) (item : Result Token Fault) → Some item ≡ first_item rest
    → lexed_entries rest places last
    ≡ lexeme_entries item (first_place places last) ++ lexed_entries (after_first_item rest) (places_after_first places) (first_place places last)
first_entries [] places last item e = cc
first_entries (s ∷ rest) places last item e = let same : item ≡ s.item = cc in rw same

-- none so far
pub lexes_none : (first : Lexed) (output : Output) → first.spent ≡ false → Lexes first first output output
lexes_none first output e = record { done = []; takes = takes_none output; left = refl; unspent = e }

module _ (first old new : Lexed) (output between : Output) (h : Lexes first old output between) where
  -- one more
  pub lexes_more : (after : Output) (item : Result Token Fault) → IsSmall between → IsNext old (Some item) new → item ≢ Err out_of_memory
      → Takes between (lexeme_entries item new.place) after → Lexes first new output after
  lexes_more after item small next reported takes = elim (unspent old.spent _ _ h.unspent next) [
    | inl wants ↦ absurd (reported (let e = wants.item in cc))
    | inr given ↦ (let is = given.state in
        let e : entries_left old ≡ lexeme_entries item new.place ++ entries_left new =
        first_entries old.rest old.places old.place item given.item ∙ rw is in
        record {
          done = h.done ++ lexeme_entries item new.place;
          takes = takes_more output between after h.done (lexeme_entries item new.place)
              (omega (arith, small.items, h.takes.items_room)) (omega (arith, small.texts, h.takes.texts_room)) h.takes takes;
          left = h.left ∙ ap (λ es. h.done ++ es) e ∙ sym (append_assoc h.done (lexeme_entries item new.place) (entries_left new));
          unspent = ap (λ (l : Lexed). l.spent) is ∙ h.unspent;
        })
  ]
