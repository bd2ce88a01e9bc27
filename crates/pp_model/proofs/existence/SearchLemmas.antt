-- The search after the name of a function-like macro finds no call, a call or a fault.
use Rattle.std.proofs.Common.{◌≡◌, ℕ, zero, suc, ◌<◌, true, List, [], refl, arith, Option, Some, None}
use Rattle.std.specs.Prelude.{Result, Ok, Err, is_ok}
use Rattle.pp_lexer.specs.declared.token.PreprocessorError.TheVariants.{IntegerOverflow, UnexpectedEndOfInput}
use Rattle.pp_model.specs.declared.place.Place.{Place}
use Rattle.pp_model.specs.Places.{PlacedFault, place_of, unasked}
use Rattle.pp_model.specs.Definitions.{Definition}
use Rattle.pp_model.specs.Reading.{Reading, Expander}
use Rattle.pp_model.specs.Taking.{Takes}
use Rattle.pp_model.specs.Calls.{Nesting, closes, within, too_many, nesting, before, Gathered, Gathers, closed, inside, overfull, ended, failed, Answers, site_of, Called, no_call, refused, fits, paren_at, Calls, alone, broken, whole}
use Rattle.pp_model.specs.ExistenceLaws.{IsFinite, AnAnswer}
use Rattle.pp_model.specs.declared.read.Read.{Read}
use Rattle.pp_model.specs.declared.read.Taken.{Taken}
use Rattle.pp_model.specs.declared.read.Taken.TheVariants as taken
use Rattle.pp_model.proofs.existence.Turns.{is_token, Here}
use Rattle.pp_model.proofs.existence.CoveredLists.{Front, size}
use Rattle.pp_model.proofs.existence.TakingLemmas.{Comes, took}

-- Where a `(` was taken, a token was.
paren_is_token : (x : Taken) (paren : Place) → paren_at x ≡ Some paren → is_token x ≡ true
paren_is_token (taken.Token read) paren h = refl
paren_is_token _ paren h = cc

ok_before : (read : Read) (x : Result Gathered PlacedFault) → is_ok (before read x) ≡ true → is_ok x ≡ true
ok_before read (Ok g) h = refl
ok_before read (Err fault) h = h

-- ---- a search that leads as far as its takings do

module _ {R : Type 0} (I : Reading R) (Fine : R → Type 0) (To : Expander R → Expander R → Type 0) where
  -- one taking after another, as long as tokens are taken
  pub data Takings : Expander R → Type 0 where
    taking : (x : Taken) (e f : Expander R) → Takes I e x f → Fine f.reader → (is_token x ≡ true → To e f) → (is_token x ≡ true → Takings f) → Takings e

  record Gathering (n : ℕ) (last : Place) (e : Expander R) : Type 0 where
    result : Result Gathered PlacedFault
    after : Expander R
    gathers : Gathers I n last e result after
    fine : Fine after.reader
    comes : is_ok result ≡ true → To e after

  abbrev pub Found : Expander R → Called → Expander R → Type 0
  Found e (no_call y) g = Fine g.reader × (is_token y ≡ true → To e g)
  Found e (refused fault) g = Fine g.reader
  Found e (fits arguments line) g = To e g

  pub record Calling (A : Answers) (d : Definition) (e : Expander R) : Type 0 where
    pub called : Called
    pub after : Expander R
    pub calls : Calls I A d e called after
    pub found : Found e called after

  module _ (joined : (e f g : Expander R) → To e f → To f g → To e g) where
    -- up to the `)` of a call
    gathering : (n : ℕ) (last : Place) (e : Expander R) → Takings e → Gathering n last e
    gathering n last e (taking (taken.Token read) e1 f t fine to more) =
        by (nesting n read.token.value) refl (λ k. gathering k (place_of read) f (more refl))
      where
        by : (w : Nesting) → nesting n read.token.value ≡ w → ((k : ℕ) → Gathering k (place_of read) f) → Gathering n last e
        by closes q later =
            let out : Result Gathered PlacedFault = Ok (record { tokens = []; closing = read.token.location }) in
            record { result = out; after = f; gathers = closed n last read e f out t q refl; fine = fine; comes = λ k. to refl }
        by (within j) q later =
            let rest = later j in
            let out = before read rest.result in
            record {
              result = out;
              after = rest.after;
              gathers = inside n j last read e f rest.after rest.result out t q rest.gathers refl;
              fine = rest.fine;
              comes = λ k. joined e f rest.after (to refl) (rest.comes (ok_before read rest.result k));
            }
        by too_many q later =
            let out : Result Gathered PlacedFault = Err (IntegerOverflow, place_of read) in
            record { result = out; after = f; gathers = overfull n last read e f out t q refl; fine = fine; comes = λ k. cc }
    gathering n last e (taking (taken.Fault fault) e1 f t fine to more) =
        record { result = Err (unasked fault); after = f; gathers = failed n last fault e f (Err (unasked fault)) t refl; fine = fine; comes = λ k. cc }
    gathering n last e (taking taken.End e1 f t fine to more) =
        let out : Result Gathered PlacedFault = Err (UnexpectedEndOfInput, last) in
        record { result = out; after = f; gathers = ended n last e f out t refl; fine = fine; comes = λ k. cc }

    pub gathers_from : (n : ℕ) (last : Place) (e : Expander R) → Takings e → (x : Result Gathered PlacedFault) × (f : Expander R) × Gathers I n last e x f
    gathers_from n last e takings = let s = gathering n last e takings in (s.result, s.after, s.gathers)

    -- a call, or none
    pub calling : (A : Answers) → AnAnswer A → ((r : R) → Fine r → IsFinite (I.visible r)) → (d : Definition) (e : Expander R) → Takings e → Calling A d e
    calling A answered finite d e (taking x e1 f t fine to more) = by_paren (paren_at x) refl
      where
        by_answer : (paren : Place) → paren_at x ≡ Some paren → (gathered : Gathered) (g : Expander R) → Gathers I 0 paren f (Ok gathered) g
            → Fine g.reader → To e g → (answer : Result (List (List Read)) PlacedFault) → A d (site_of I g paren gathered.tokens) answer → Calling A d e
        by_answer paren p gathered g gathers fine_g comes (Ok arguments) is =
            let called = fits arguments gathered.closing.line in
            record { called = called; after = g; calls = whole x paren gathered (Ok arguments) e f g called t p gathers is refl; found = comes }
        by_answer paren p gathered g gathers fine_g comes (Err fault) is =
            let called = refused fault in
            record { called = called; after = g; calls = whole x paren gathered (Err fault) e f g called t p gathers is refl; found = fine_g }

        by_result : (paren : Place) → paren_at x ≡ Some paren → (s : Gathering 0 paren f) (g : Result Gathered PlacedFault) → s.result ≡ g → Calling A d e
        by_result paren p s (Ok gathered) q =
            let comes = joined e f s.after (to (paren_is_token x paren p)) (s.comes (rw q refl)) in
            let answer = answered d (site_of I s.after paren gathered.tokens) (finite s.after.reader s.fine) in
            by_answer paren p gathered s.after (rw q at s.gathers) s.fine comes answer.0 answer.1
        by_result paren p s (Err fault) q = record {
          called = refused fault;
          after = s.after;
          calls = broken x paren fault e f s.after (refused fault) t p (rw q at s.gathers) refl;
          found = s.fine;
        }

        by_paren : (found : Option Place) → paren_at x ≡ found → Calling A d e
        by_paren None p = record { called = no_call x; after = f; calls = alone x e f (no_call x) t p refl; found = (fine, to) }
        by_paren (Some paren) p =
            let s = gathering 0 paren f (more (paren_is_token x paren p)) in
            by_result paren p s s.result refl

-- ---- over one reader

module _ {R : Type 0} {I : Reading R} {A : Answers} {Fine : R → Type 0} {left : R → ℕ} (c : Here I A Fine left) where
  takings : (fuel : ℕ) (e : Expander R) → Front c e → size c e < fuel → Takings I Fine (Comes c) e
  takings zero e front enough = absurd (omega (arith, enough))
  takings (suc fuel) e front enough =
      let t = took c e front in
      taking t.given e t.after t.takes t.fine t.comes (λ k. takings fuel t.after (t.comes k).front (omega (arith, (t.comes k).less, enough)))

  comes_then : (e f g : Expander R) → Comes c e f → Comes c f g → Comes c e g
  comes_then e f g first later =
      record { front = later.front; less = omega (arith, first.less, later.less); kept = omega (arith, first.kept, later.kept) }

  pub searched : (d : Definition) (e : Expander R) → Front c e → Calling I Fine (Comes c) A d e
  searched d e front = calling I Fine (Comes c) comes_then A c.premises.answered c.premises.finite d e (takings (suc (size c e)) e front (omega arith))
