-- Lists over which an expander goes on wherever taking leads; and how far taking may have led: less is left of the reader, or
-- such a list comes before it.
use Rattle.std.proofs.Common.{◌≡◌, ℕ, ◌+◌, ◌<◌, false, List, [], ◌∷◌, ◌++◌, length, refl, ap, Some, None}
use Rattle.pp_model.specs.Names.{Name, is_in}
use Rattle.pp_model.specs.SpliceList.{after_marks, open_names, macro_before}
use Rattle.pp_model.specs.Reading.{Reading, Expander, Opening}
use Rattle.pp_model.specs.Calls.{Answers}
use Rattle.pp_model.specs.ApartMarks.{IsRest}
use Rattle.pp_model.specs.declared.read.Read.{Read}
use Rattle.pp_model.specs.declared.splice.Entry.{Entry}
use Rattle.pp_model.specs.declared.splice.Entry.TheVariants.{Plain, End}
use Rattle.pp_model.proofs.taking.OpenNamesLemmas.{not_in_later, open_around}
use Rattle.pp_model.proofs.existence.Turns.{GoesOn, Here}
use Rattle.pp_model.specs.Emitting.{called_at}

-- What is open neither in a list nor around is open neither in what is left of it nor around.
pub still_closed : (name : Name) (old new : List Entry) (hidden : List Name) → IsRest old new → is_in name (open_names old ++ hidden) ≡ false
    → is_in name (open_names new ++ hidden) ≡ false
still_closed name old new hidden rest h =
    not_in_later name (open_names rest.0) (open_names new ++ hidden) (rw (open_around old new rest hidden) at h)

-- ---- lists over one reader

module _ {R : Type 0} {I : Reading R} {A : Answers} {Fine : R → Type 0} {left : R → ℕ} (c : Here I A Fine left) where
  abbrev G : Expander R → Type 0
  G = GoesOn I A Fine

  -- these entries before the reader
  abbrev pub over : List Entry → Expander R
  over S = record { held = None; list = S; reader = c.reader; hidden = c.hidden }

  -- the expander goes on where a macro that is defined and not open opens before these entries
  abbrev pub Opens : List Entry → Type 0
  Opens S = (m : Opening) (line : ℕ) (arguments : List (List Read)) → I.visible c.reader m.name ≡ Some m.definition
      → is_in m.name (open_names S ++ c.hidden) ≡ false → G (over (macro_before m.name m.definition (called_at m.text m.token line) arguments S))

  -- it goes on where these entries are left after the marks at the front
  abbrev pub Goes : List Entry → Type 0
  Goes L = (S : List Entry) → after_marks S ≡ L → G (over S)

  -- it does so wherever taking leads in the list, and where a macro opens after a token of it
  abbrev pub Covered : List Entry → Type 0
  Covered [] = Goes []
  Covered (End mark ∷ S) = Covered S
  Covered (Plain read ∷ S) = Goes (Plain read ∷ S) × Opens S × Covered S

  pub covered_goes : (S T : List Entry) → Covered S → after_marks T ≡ after_marks S → G (over T)
  covered_goes [] T a p = a T p
  covered_goes (End mark ∷ S) T a p = covered_goes S T a p
  covered_goes (Plain read ∷ S) T a p = a.0 T p

  pub covered_after_marks : (S : List Entry) → Covered S → Covered (after_marks S)
  covered_after_marks [] a = a
  covered_after_marks (End mark ∷ S) a = covered_after_marks S a
  covered_after_marks (Plain read ∷ S) a = a

  -- ---- how far taking may have led

  pub data Front : Expander R → Type 0 where
    moved : (e : Expander R) → e.held ≡ None → Fine e.reader → left e.reader < left c.reader → Front e
    here : (S : List Entry) (e : Expander R) → e ≡ over S → Opens S → Covered S → Front e

  -- so much is left to take: entries, or tokens of the reader
  abbrev pub size : Expander R → ℕ
  size e = length e.list + left e.reader

  pub front_fine : (e : Expander R) → Front e → Fine e.reader
  front_fine e (moved e1 none f less) = f
  front_fine e (here S e1 p o a) = rw p c.ready

  pub front_goes : (e : Expander R) → Front e → G e
  front_goes e (moved e1 none f less) = c.below e f less
  front_goes e (here S e1 p o a) = rw p (covered_goes S S a refl)

  pub front_unheld : (e : Expander R) → Front e → Front (record e { held = None })
  front_unheld e (moved e1 none f less) = moved (record e { held = None }) refl f less
  front_unheld e (here S e1 p o a) = here S (record e { held = None }) (ap (λ (x : Expander R). record x { held = None }) p) o a
