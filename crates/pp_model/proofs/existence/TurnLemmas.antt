-- One turn of an expander: what is taken opens no macro, or it leads to an expander that goes on.
use Rattle.std.proofs.Common.{◌≡◌, ◌∙◌, sym, ℕ, zero, suc, ◌≤◌, ◌<◌, Bool, true, false, List, [], refl, arith, Option, Some, None}
use Rattle.pp_model.specs.Names.{is_in}
use Rattle.pp_model.specs.Painting.{taken_among}
use Rattle.pp_model.specs.Reading.{Reading, Expander, masked_names, Opening, opening}
use Rattle.pp_model.specs.Taking.{Takes, held}
use Rattle.pp_model.specs.Calls.{Answers, Called, no_call, refused, fits, Calls}
use Rattle.pp_model.specs.Emitting.{found_among, with_macro, Emits, itself, object, name_alone, call_refused, call}
use Rattle.pp_model.specs.ApartMarks.{IsRest}
use Rattle.pp_model.specs.declared.read.Read.{Read}
use Rattle.pp_model.specs.declared.read.Taken.{Taken}
use Rattle.pp_model.specs.declared.read.Taken.TheVariants as taken
use Rattle.pp_model.proofs.taking.OpenNamesLemmas.{opening_known, opening_not_masked}
use Rattle.pp_model.proofs.taking.ApartMarksLemmas.{call_leaves_rest}
use Rattle.pp_model.proofs.taking.FoundLemmas.{found_same}
use Rattle.pp_model.proofs.existence.Turns.{is_token, Item, GoesOn, goes_on, next_item, Here, token_painted}
use Rattle.pp_model.proofs.existence.CoveredLists.{still_closed, Front, moved, here, front_goes, front_unheld, size}
use Rattle.pp_model.proofs.existence.TakingLemmas.{taking, Comes}
use Rattle.pp_model.proofs.existence.SearchLemmas.{Found, searched}

module _ {R : Type 0} {I : Reading R} {A : Answers} {Fine : R → Type 0} {left : R → ℕ} (c : Here I A Fine left) where
  abbrev G : Expander R → Type 0
  G = GoesOn I A Fine

  abbrev Next : Expander R → Type 0
  Next = Item I A Fine G

  -- what an expander gives, one that leads to it gives too
  through : (e f : Expander R) → ((o : Taken) (h : Expander R) → Emits I A f o h → Emits I A e o h) → G f → Next e
  through e f leads goes =
      let i = next_item f goes in
      record { item = i.item; after = i.after; emits = leads i.item i.after i.emits; fine = i.fine; goes = i.goes }

  -- a macro opens right after its name, or after its call
  opened_goes : (e f g : Expander R) (x : Taken) (m : Opening) (line : ℕ) (arguments : List (List Read)) → Takes I e x f → Front c f
      → opening I f x ≡ Some m → IsRest f.list g.list → left g.reader ≤ left f.reader → Front c g → G (with_macro m line arguments g)
  opened_goes e f g x m line arguments t front p rest kept (moved g1 none fine less) = c.below (with_macro m line arguments g) fine less
  opened_goes e f g x m line arguments t (moved f1 none fine less) p rest kept (here T g1 q o a) =
      let same : left g.reader ≡ left c.reader = rw q refl in
      absurd (omega (arith, less, kept, same))
  opened_goes e f g x m line arguments t (here S f1 q o a) p rest kept (here T g1 u v b) =
      let defined : I.visible c.reader m.name ≡ Some m.definition = rw q at (opening_known I f x m p).defined in
      let free : is_in m.name (masked_names f) ≡ false = opening_not_masked I x m e f t p in
      let free_here = rw q at free in
      let left_over : IsRest S T = rw (q, u) at rest in
      rw u (v m line arguments defined (still_closed m.name S T c.hidden left_over free_here))

  -- the expander goes on after a taking that so many steps of searching may follow
  abbrev pub Turned : ℕ → Type 0
  Turned fuel = (x : Taken) (e f : Expander R) → Takes I e x f → Fine f.reader → (is_token x ≡ true → Front c f)
      → (is_token x ≡ true → size c f < fuel) → G e

  token_opens : (f : Expander R) (x : Taken) (m : Opening) → opening I f x ≡ Some m → is_token x ≡ true
  token_opens f x m p = rw (opening_known I f x m p).taken refl

  -- what was found in place of a `(` is held, and taken again
  held_goes : (fuel : ℕ) → Turned fuel → (y : Taken) (f g : Expander R) → size c f < suc fuel → Fine g.reader → (is_token y ≡ true → Comes c f g)
      → G (record g { held = Some y })
  held_goes fuel again y f g room fine comes =
      let before : Expander R = record g { held = Some y } in
      let after : Expander R = record g { held = None } in
      again (taken_among (masked_names after) y) before after (taking I before after y (held y before after refl refl)) fine
      (λ k. front_unheld c g (comes (token_painted (masked_names after) y k)).front)
      (λ k. omega (arith, (comes (token_painted (masked_names after) y k)).less, room))

  next_called : (fuel : ℕ) → Turned fuel → (x : Taken) (e f : Expander R) → Takes I e x f → size c f < suc fuel → (m : Opening)
      → opening I f x ≡ Some m → m.definition.function_like ≡ true → Front c f → (called : Called) (g : Expander R)
      → Calls I A m.definition f called g → Found I Fine (Comes c) f called g → Next e
  next_called fuel again x e f t room m p q front (no_call y) g calls found = record {
    item = x;
    after = record g { held = Some y };
    emits = name_alone x y x m e f g (record g { held = Some y }) t p q calls refl refl;
    fine = found.0;
    goes = λ k. held_goes fuel again y f g room found.0 found.1;
  }
  next_called fuel again x e f t room m p q front (refused fault) g calls found = record {
    item = found_among g.list (taken.Fault fault);
    after = g;
    emits = call_refused x (found_among g.list (taken.Fault fault)) fault m e f g t p q calls refl;
    fine = found;
    goes = λ k. cc;
  }
  next_called fuel again x e f t room m p q front (fits arguments line) g calls found =
      through e (with_macro m line arguments g) (λ o h i. call x o arguments line m e f g h t p q calls i)
      (opened_goes e f g x m line arguments t front p (call_leaves_rest I A m.definition (fits arguments line) f g calls) found.kept found.front)

  next_opened : (fuel : ℕ) → Turned fuel → (x : Taken) (e f : Expander R) → Takes I e x f → size c f < suc fuel → (m : Opening)
      → opening I f x ≡ Some m → Front c f → (b : Bool) → m.definition.function_like ≡ b → Next e
  next_opened fuel again x e f t room m p front false q =
      through e (with_macro m m.token.location.line [] f) (λ o h i. object x o m e f h t p q i)
      (opened_goes e f f x m m.token.location.line [] t front p ([], refl) (omega arith) front)
  next_opened fuel again x e f t room m p front true q =
      let s = searched c m.definition f front in
      next_called fuel again x e f t room m p q front s.called s.after s.calls s.found

  -- what is taken is the next item, or opens a macro
  turned_by : (x : Taken) (e f : Expander R) → Takes I e x f → Fine f.reader → (is_token x ≡ true → Front c f)
      → ((m : Opening) → opening I f x ≡ Some m → Next e) → G e
  turned_by x e f t fine front opens = goes_on x next.item e f next.after t fine goes next.emits next.fine next.goes
    where
      goes : is_token x ≡ true → G f
      goes k = front_goes c f (front k)

      by : (o : Option Opening) → opening I f x ≡ o → Next e
      by None q = record {
        item = found_among f.list x;
        after = f;
        emits = itself x (found_among f.list x) e f t q refl;
        fine = fine;
        goes = λ k. goes (sym (found_same is_token (λ _ _. refl) f.list x) ∙ k);
      }
      by (Some m) q = opens m q

      next : Next e
      next = by (opening I f x) refl

  -- An expander from which something is taken goes on.
  pub turned : (fuel : ℕ) → Turned fuel
  turned zero = λ x e f t fine front room.
      turned_by x e f t fine front (λ m p. absurd (omega (arith, room (token_opens f x m p))))
  turned (suc fuel) = λ x e f t fine front room.
      turned_by x e f t fine front (λ m p. let is = token_opens f x m p in
      next_opened fuel (turned fuel) x e f t (room is) m p (front is) m.definition.function_like refl)
