-- Expanders that go on: what is taken next, the next item, and the same again after a token. Every expander goes on
-- (EveryExpander), if its reader gives something next and finitely many names are defined.
use Rattle.std.proofs.Common.{◌≡◌, ℕ, ◌<◌, Bool, true, false, List, refl, Option}
use Rattle.pp_model.specs.Names.{Name}
use Rattle.pp_model.specs.Painting.{taken_among}
use Rattle.pp_model.specs.Reading.{Reading, Expander}
use Rattle.pp_model.specs.Taking.{Takes, shown_outcome}
use Rattle.pp_model.specs.Calls.{Answers}
use Rattle.pp_model.specs.Emitting.{Emits}
use Rattle.pp_model.specs.ExistenceLaws.{IsFinite, AnAnswer}
use Rattle.pp_model.specs.declared.read.Taken.{Taken}
use Rattle.pp_model.specs.declared.read.Taken.TheVariants as taken
use Rattle.pp_lexer.specs.declared.token.Integer.{Integer}

abbrev pub is_token : Taken → Bool
is_token (taken.Token read) = true
is_token _ = false

-- The reader gives something. After a token less is left of it.
pub record Given {R : Type 0} (I : Reading R) (Fine : R → Type 0) (left : R → ℕ) (r : R) : Type 0 where
  pub given : Taken
  pub after : R
  pub reads : I.Reads r given after
  pub fine : Fine after
  pub falls : is_token given ≡ true → left after < left r

-- The next item, after which the reader is fine. After a token the property holds.
pub record Item {R : Type 0} (I : Reading R) (A : Answers) (Fine : R → Type 0) (G : Expander R → Type 0) (e : Expander R) : Type 0 where
  pub item : Taken
  pub after : Expander R
  pub emits : Emits I A e item after
  pub fine : Fine after.reader
  pub goes : is_token item ≡ true → G after

-- Something is taken, and there is a next item. After each the reader is fine, and after a token the same holds again.
pub data GoesOn {R : Type 0} (I : Reading R) (A : Answers) (Fine : R → Type 0) : Expander R → Type 0 where
  goes_on : (x o : Taken) (e f h : Expander R)
      → Takes I e x f → Fine f.reader → (is_token x ≡ true → GoesOn I A Fine f)
      → Emits I A e o h → Fine h.reader → (is_token o ≡ true → GoesOn I A Fine h)
      → GoesOn I A Fine e

pub next_item : {R : Type 0} {I : Reading R} {A : Answers} {Fine : R → Type 0} (e : Expander R) → GoesOn I A Fine e → Item I A Fine (GoesOn I A Fine) e
next_item e (goes_on x o e1 f h takes fine_f more emits fine next) = record { item = o; after = h; emits = emits; fine = fine; goes = next }

-- What is asked of a kind of reader: a fine reader gives something and sees finitely many definitions, and calls have answers.
pub record Premises {R : Type 0} (I : Reading R) (A : Answers) (Fine : R → Type 0) (left : R → ℕ) : Type 0 where
  pub gives : (r : R) → Fine r → Given I Fine left r
  pub finite : (r : R) → Fine r → IsFinite (I.visible r)
  pub answered : AnAnswer A

-- One reader, where each expander whose reader has less left goes on.
pub record Here {R : Type 0} (I : Reading R) (A : Answers) (Fine : R → Type 0) (left : R → ℕ) : Type 0 where
  pub premises : Premises I A Fine left
  pub reader : R
  pub hidden : List Name
  pub ready : Fine reader
  pub below : (e : Expander R) → Fine e.reader → left e.reader < left reader → GoesOn I A Fine e

-- paint, and a line's number in place of `__LINE__`, make no token of what was none
pub token_painted : (names : List Name) (x : Taken) → is_token (taken_among names x) ≡ true → is_token x ≡ true
token_painted names (taken.Token read) h = h
token_painted names _ h = h

pub token_shown : (shown : ℕ → Option Integer) (x : Taken) → is_token (shown_outcome shown x) ≡ true → is_token x ≡ true
token_shown shown (taken.Token read) h = refl
token_shown shown _ h = h
