-- Every expander whose reader is fine goes on. The proof goes by what is left of the reader; by how many of the defined names
-- are not open over the rest of the list, since a macro that opens there leaves one fewer over its body; and by the length of
-- the list, since a search that finds no call leaves a shorter one.
use Rattle.std.proofs.Common.{ℕ, zero, suc, ◌≤◌, ◌<◌, List, [], ◌∷◌, ◌++◌, map, refl, arith, Option, Some, None}
use Rattle.std.specs.Prelude.{slice_get, unwrap_or}
use Rattle.pp_lexer.specs.declared.token.Token.{Token}
use Rattle.pp_model.specs.Names.{Name}
use Rattle.pp_model.specs.SpliceList.{open_names, parameter_of, replacement, body_before, macro_before}
use Rattle.pp_model.specs.Painting.{read_in, taken_among}
use Rattle.pp_model.specs.Reading.{Reading, Expander, masked_names}
use Rattle.pp_model.specs.Taking.{held, listed, shown_token}
use Rattle.pp_model.specs.Calls.{Answers}
use Rattle.pp_model.specs.declared.read.Read.{Read}
use Rattle.pp_model.specs.declared.read.Taken.{Taken}
use Rattle.pp_model.specs.declared.splice.Entry.{Entry}
use Rattle.pp_model.specs.declared.splice.Entry.TheVariants.{Plain, End}
use Rattle.pp_model.proofs.existence.RoomLemmas.{room, room_falls}
use Rattle.pp_model.proofs.existence.Turns.{GoesOn, Premises, Here}
use Rattle.pp_model.proofs.existence.CoveredLists.{over, Opens, Covered, covered_goes, here, size}
use Rattle.pp_model.proofs.existence.TakingLemmas.{taking, took_read}
use Rattle.pp_model.proofs.existence.TurnLemmas.{turned}
use Rattle.pp_model.specs.Emitting.{called_at}

module _ {R : Type 0} {I : Reading R} {A : Answers} {Fine : R → Type 0} {left : R → ℕ} (c : Here I A Fine left) where
  abbrev names : List Name
  names = (c.premises.finite c.reader c.ready).names

  -- how many of the defined names may still open over these entries
  abbrev room_over : List Entry → ℕ
  room_over S = room names (open_names S ++ c.hidden)

  -- where no more may open than that, a covered list may be opened over
  abbrev Grows : ℕ → Type 0
  Grows k = (S : List Entry) → room_over S ≤ k → Covered c S → Opens c S

  -- ---- entries before a covered list

  covered_token : (k : ℕ) → Grows k → (S : List Entry) → room_over S ≤ k → Covered c S → (read : Read) → Covered c (Plain read ∷ S)
  covered_token k grow S le a read =
      let first = shown_token (I.shown_line c.reader) S read in (
        (λ T p. turned c (suc (size c (over c S))) (taken_among (masked_names (over c S)) first) (over c T) (over c S)
            (taking I (over c T) (over c S) first (listed first read S (over c T) (over c S) refl p refl refl)) c.ready
            (λ t. here S (over c S) refl (grow S le a) a) (λ t. omega arith)),
        grow S le a,
        a,
      )

  covered_tokens : (k : ℕ) → Grows k → (tokens : List Read) (S : List Entry) → room_over S ≤ k → Covered c S
      → Covered c (map Plain tokens ++ S) × (room_over (map Plain tokens ++ S) ≤ k)
  covered_tokens k grow [] S le a = (a, le)
  covered_tokens k grow (read ∷ tokens) S le a =
      let rest = covered_tokens k grow tokens S le a in
      (covered_token k grow (map Plain tokens ++ S) rest.1 rest.0 read, rest.1)

  covered_replacement : (k : ℕ) → Grows k → (arguments : List (List Read)) (text : ℕ) (token : Token) (position : Option ℕ) (S : List Entry) → room_over S ≤ k
      → Covered c S → Covered c (replacement arguments text token position S) × (room_over (replacement arguments text token position S) ≤ k)
  covered_replacement k grow arguments text token None S le a = (covered_token k grow S le a (read_in text token), le)
  covered_replacement k grow arguments text token (Some n) S le a = covered_tokens k grow (unwrap_or (slice_get arguments n) []) S le a

  covered_body : (k : ℕ) → Grows k → (parameters : List Name) (arguments : List (List Read)) (text : ℕ) (body : List Token) (S : List Entry) → room_over S ≤ k
      → Covered c S → Covered c (body_before parameters arguments text body S) × (room_over (body_before parameters arguments text body S) ≤ k)
  covered_body k grow parameters arguments text [] S le a = (a, le)
  covered_body k grow parameters arguments text (token ∷ body) S le a =
      let rest = covered_body k grow parameters arguments text body S le a in
      covered_replacement k grow arguments text token (parameter_of parameters token.value) (body_before parameters arguments text body S) rest.1 rest.0

  -- ---- by how many names may still open

  grows : (k : ℕ) → Grows k
  grows zero = λ S le a m line arguments defined free.
      let falls = room_falls names m.name (open_names S ++ c.hidden) ((c.premises.finite c.reader c.ready).among m.name m.definition defined) free in
      absurd (omega (arith, falls, le))
  grows (suc k) = λ S le a m line arguments defined free.
      let falls = room_falls names m.name (open_names S ++ c.hidden) ((c.premises.finite c.reader c.ready).among m.name m.definition defined) free in
      let marked = End (record { name = m.name; call = called_at m.text m.token line }) ∷ S in
      let fewer : room_over marked ≤ k = omega (arith, falls, le) in
      let covered = covered_body k (grows k) m.definition.parameters arguments m.definition.text m.definition.body marked fewer a in
      let all = macro_before m.name m.definition (called_at m.text m.token line) arguments S in
      covered_goes c all all covered.0 refl

  every_list : (S : List Entry) → Covered c S
  every_list [] = λ T p.
      let t = took_read c (over c T) refl p c.ready (omega arith) in
      turned c (suc (size c t.after)) t.given (over c T) t.after t.takes t.fine (λ k. (t.comes k).front) (λ k. omega arith)
  every_list (End mark ∷ S) = every_list S
  every_list (Plain read ∷ S) = covered_token (room_over S) (grows (room_over S)) S (omega arith) (every_list S) read

  held_goes : (y : Taken) (S : List Entry) → GoesOn I A Fine (record (over c S) { held = Some y })
  held_goes y S =
      let before : Expander R = record (over c S) { held = Some y } in
      turned c (suc (size c (over c S))) (taken_among (masked_names (over c S)) y) before (over c S)
      (taking I before (over c S) y (held y before (over c S) refl refl)) c.ready
      (λ t. here S (over c S) refl (grows (room_over S) S (omega arith) (every_list S)) (every_list S)) (λ t. omega arith)

  pub goes_on : (held_before : Option Taken) (S : List Entry) → GoesOn I A Fine (record (over c S) { held = held_before })
  goes_on None S = covered_goes c S S (every_list S) refl
  goes_on (Some y) S = held_goes y S

-- ---- every reader

module _ {R : Type 0} {I : Reading R} {A : Answers} {Fine : R → Type 0} {left : R → ℕ} (p : Premises I A Fine left) where
  below : (n : ℕ) (e : Expander R) → Fine e.reader → left e.reader < n → GoesOn I A Fine e
  below zero e fine less = absurd (omega (arith, less))
  below (suc n) e fine less =
      let c : Here I A Fine left = record {
        premises = p;
        reader = e.reader;
        hidden = e.hidden;
        ready = fine;
        below = λ f fine_f less_f. below n f fine_f (omega (arith, less_f, less));
      } in
      goes_on c e.held e.list

  -- Every expander goes on.
  pub every : (e : Expander R) → Fine e.reader → GoesOn I A Fine e
  every e fine = below (suc (left e.reader)) e fine (omega arith)
