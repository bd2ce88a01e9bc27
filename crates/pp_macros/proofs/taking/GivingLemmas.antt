-- Steps that give tokens or pause: less is left after each, and the loop over an argument may take any number of them at once.
use Rattle.std.proofs.Common.{◌≡◌, ◌∙◌, ◌≤◌, ◌++◌, ℕ, List, [], ◌∷◌, ap, arith, refl, subst, sym, Ok, Err, false}
use Rattle.pp_model.specs.declared.read.Read.{Read}
use Rattle.pp_model.specs.Names.{Name}
use Rattle.pp_model.specs.Places.{PlacedFault}
use Rattle.pp_macros.specs.inner.CallTurns.{TurnsTo, passes, gives, object, seeks, TakesSomething}
use Rattle.pp_macros.specs.Item.{PlacedStep, is_out_of_memory}
use Rattle.pp_macros.specs.inner.Defined.{Defined}
use Rattle.pp_macros.specs.inner.Finishing.{TurnsOnce, puts, waits, TurnsOver, unturned, onward, ComesTo, ComesToCall}
use Rattle.pp_macros.specs.inner.Giving.{GivesOne, pause, token, GivesEach, none, further}
use Rattle.pp_macros.specs.inner.Left.{IsSound, work_of}
use Rattle.pp_macros.specs.inner.Expander.{Expander}
use Rattle.pp_macros.specs.inner.Reader.{Reader, of_list, Listing}
use Rattle.pp_macros.specs.declared.calls.Taken.{Taken}
use Rattle.pp_macros.specs.declared.calls.Taken.TheVariants as taken
use Rattle.pp_macros.specs.declared.halt.PlacedHalt.{PlacedHalt}
use Rattle.pp_macros.specs.declared.halt.PlacedHalt.TheVariants as halt
use Rattle.pp_macros.specs.declared.step.PlacedExit.TheVariants.{Continue, Error}
use Rattle.std.proofs.lemmas.List.{append_assoc}
use Rattle.pp_macros.proofs.taking.PartLemmas.{added_is, added_push}
use Rattle.pp_macros.specs.inner.Parts.{addition}
use Rattle.pp_macros.proofs.taking.ListLeadsLemmas.{Reached, reached_token, token_less, reached_pause, pause_less}
use Rattle.pp_macros.proofs.work.CallFallsLemmas.{IsLess, turn_falls}
use Rattle.pp_model.specs.declared.numbering.Numbering.{Numbering}

-- each turn lowers what is left
pub giving_less : (levels : ℕ) (r : Reader) (m n : Expander) (items more : List Read) → IsSound m r → GivesOne r m items n more → IsLess levels m r n r
giving_less levels r m n items more sound (pause turns is) = turn_falls levels m r sound (Err Continue) n r turns refl
giving_less levels r m n items more sound (token read turns is) = turn_falls levels m r sound (Ok (taken.Token read)) n r turns refl

-- what the open macros give lowers what is left, or leaves it
pub given_sound : (r : Reader) (m : Expander) (items : List Read) (n : Expander) (more : List Read) → IsSound m r → GivesEach r m items n more
    → IsSound n r × work_of 0 n r ≤ work_of 0 m r
given_sound r m items n more sound (none n1 more1 same is) = rw same (sound, omega arith)
given_sound r m items n more sound (further between n1 some more1 each one) =
    let h = given_sound r m items between some sound each in
    let less = giving_less 0 r between n some more h.0 one in
    (less.sound, omega (arith, h.1, less.falls))

-- less is left after what the open macros give and one turn more
pub once_less : (m : Expander) (l : Listing) (items : List Read) (last : Expander) (given : List Read) (n : Expander) (k : Listing) (more : List Read)
    → IsSound m (of_list l) → GivesEach (of_list l) m items last given → TurnsOnce last l given n k more → IsLess 0 m (of_list l) n (of_list k)
once_less m l items last given n k more sound each once =
    let h = given_sound (of_list l) m items last given sound each in
    let less = one_less h.0 once in
    record { falls = omega (arith, h.1, less.falls); tight = less.tight; sound = less.sound }
  where
    one_less : IsSound last (of_list l) → TurnsOnce last l given n k more → IsLess 0 last (of_list l) n (of_list k)
    one_less there (puts read turns is) = turn_falls 0 last (of_list l) there (Ok (taken.Token read)) n (of_list k) turns refl
    one_less there (waits turns is) = turn_falls 0 last (of_list l) there (Err Continue) n (of_list k) turns refl

-- where a token is given, there is something to take
pub given_some : (r s : Reader) (m n : Expander) (read : Read) → TurnsTo m r (Ok (taken.Token read)) n s → TakesSomething m r
given_some r s m n read (passes exit step m1 n1 r1 s1 steps is) = cc
given_some r s m n read (gives own step m1 n1 r1 s1 steps plain is) = record { step = Ok own; after = n; reader = s; takes = steps; goes = refl }
given_some r s m n read (object own opened step m1 between n1 r1 s1 steps some bare is at) = cc
given_some r s m n read (seeks own opened c step m1 between p q r1 t s1 steps some function sought finds) =
    record { step = Ok own; after = between; reader = t; takes = steps; goes = refl }

-- what the loop over an argument has reached from here, and that no more work is left
pub record ReachedOn (levels : ℕ) (numbering : Numbering) (definitions : List Defined) (hidden : List Name) (tokens : List Read)
    (m : Expander) (l : Listing) (n : Expander) (more : List Read) : Type 0 where
  pub reached : Reached levels numbering definitions hidden tokens n l more
  pub least : work_of levels n (of_list l) ≤ work_of levels m (of_list l)

module _ (levels : ℕ) (numbering : Numbering) (definitions : List Defined) (hidden : List Name) (tokens : List Read) (m : Expander) (l : Listing) where
  reached_one : (n : Expander) (items more : List Read) → Reached levels numbering definitions hidden tokens m l items → GivesOne (of_list l) m items n more
      → ReachedOn levels numbering definitions hidden tokens m l n more
  reached_one n items more r (pause turns is) =
      rw is (record {
        reached = reached_pause levels numbering definitions hidden tokens m l items r n l turns;
        least = omega (arith, pause_less levels numbering definitions hidden tokens m l items r n l turns);
      })
  reached_one n items more r (token read turns is) =
      record {
        reached = reached_token levels numbering definitions hidden tokens m l items r n l read more turns is;
        least = omega (arith, token_less levels numbering definitions hidden tokens m l items r n l read turns);
      }

pub reached_each : (levels : ℕ) (numbering : Numbering) (definitions : List Defined) (hidden : List Name) (tokens : List Read) (m : Expander) (l : Listing)
    (items : List Read) (n : Expander) (more : List Read) → Reached levels numbering definitions hidden tokens m l items → GivesEach (of_list l) m items n more
    → ReachedOn levels numbering definitions hidden tokens m l n more
reached_each levels numbering definitions hidden tokens m l items n more r (none n1 more1 same is) =
    rw (same, is) (record { reached = r; least = omega arith })
reached_each levels numbering definitions hidden tokens m l items n more r (further between n1 some more1 each one) =
    let h = reached_each levels numbering definitions hidden tokens m l items between some r each in
    let k = reached_one levels numbering definitions hidden tokens between l n some more h.reached one in
    record { reached = k.reached; least = omega (arith, h.least, k.least) }

-- steps put what they give after the tokens before, so none of these matters
record GivenAfter (r : Reader) (m : Expander) (before given : List Read) (n : Expander) (more : List Read) : Type 0 where
  out : List Read
  keeps : more ≡ before ++ out
  gives : GivesEach r m given n out

given_after : (r : Reader) (m : Expander) (before given items : List Read) → items ≡ before ++ given → (n : Expander) (more : List Read)
    → GivesEach r m items n more → GivenAfter r m before given n more
given_after r m before given items start n more (none n1 more1 same is) = record { out = given; keeps = is ∙ start; gives = none n given same refl }
given_after r m before given items start n more (further between p some more1 each (pause turns is)) =
    let h = given_after r m before given items start between some each in
    record { out = h.out; keeps = is ∙ h.keeps; gives = further between n h.out h.out h.gives (pause turns refl) }
given_after r m before given items start n more (further between p some more1 each (token read turns is)) =
    let h = given_after r m before given items start between some each in
    record {
      out = h.out ++ read ∷ [];
      keeps = is ∙ ap (λ (tokens : List Read). tokens ++ read ∷ []) h.keeps ∙ append_assoc before h.out (read ∷ []);
      gives = further between n h.out (h.out ++ read ∷ []) h.gives (token read turns refl);
    }

-- what the loop has reached of a list that had tokens before
pub record ReachedAdded (levels : ℕ) (numbering : Numbering) (definitions : List Defined) (hidden : List Name) (tokens : List Read)
    (m : Expander) (l : Listing) (before : List Read) (n : Expander) (k : Listing) (more : List Read) : Type 0 where
  pub keeps : more ≡ before ++ addition before more
  pub reached : Reached levels numbering definitions hidden tokens n k (addition before more)
  pub least : work_of levels n (of_list k) ≤ work_of levels m (of_list l)

module _ (levels : ℕ) (numbering : Numbering) (definitions : List Defined) (hidden : List Name) (tokens : List Read) (m : Expander) (l : Listing)
    (before items : List Read) (keeps : items ≡ before ++ addition before items)
    (r : Reached levels numbering definitions hidden tokens m l (addition before items)) where
  reached_added : (n : Expander) (more : List Read) → GivesEach (of_list l) m items n more
      → ReachedAdded levels numbering definitions hidden tokens m l before n l more
  reached_added n more each =
      let h = given_after (of_list l) m before (addition before items) items keeps n more each in
      let same : addition before more ≡ h.out = added_is before more h.out h.keeps in
      let on = reached_each levels numbering definitions hidden tokens m l (addition before items) n h.out r h.gives in
      record {
        keeps = h.keeps ∙ ap (λ (out : List Read). before ++ out) (sym same);
        reached = rw same on.reached;
        least = on.least;
      }

  reached_once : (n : Expander) (k : Listing) (more : List Read) → TurnsOnce m l items n k more
      → ReachedAdded levels numbering definitions hidden tokens m l before n k more
  reached_once n k more (puts read turns is) =
      let put = added_push before items more read keeps is in
      let one_more : addition before more ≡ addition before items ++ read ∷ [] = added_is before more _ put in
      record {
        keeps = put ∙ ap (λ (out : List Read). before ++ out) (sym one_more);
        reached = reached_token levels numbering definitions hidden tokens m l (addition before items) r n k read (addition before more) turns one_more;
        least = omega (arith, token_less levels numbering definitions hidden tokens m l (addition before items) r n k read turns);
      }
  reached_once n k more (waits turns is) =
      rw is (record {
        keeps = keeps;
        reached = reached_pause levels numbering definitions hidden tokens m l (addition before items) r n k turns;
        least = omega (arith, pause_less levels numbering definitions hidden tokens m l (addition before items) r n k turns);
      })

-- what the loop has reached after any number of turns over a list
reached_over : (levels : ℕ) (numbering : Numbering) (definitions : List Defined) (hidden : List Name) (tokens : List Read) (m : Expander) (l : Listing)
    (before items : List Read) → items ≡ before ++ addition before items → Reached levels numbering definitions hidden tokens m l (addition before items)
    → (n : Expander) (k : Listing) (more : List Read) → TurnsOver m l items n k more
    → ReachedAdded levels numbering definitions hidden tokens m l before n k more
reached_over levels numbering definitions hidden tokens m l before items keeps r n k more (unturned n1 k1 more1 same there is) =
    rw (same, there, is) (record { keeps = keeps; reached = r; least = omega arith })
reached_over levels numbering definitions hidden tokens m l before items keeps r p j more (onward n last p1 k j1 some given more1 over each once) =
    let h = reached_over levels numbering definitions hidden tokens m l before items keeps r n k some over in
    let on = reached_added levels numbering definitions hidden tokens n k before some h.keeps h.reached last given each in
    let one = reached_once levels numbering definitions hidden tokens last k before given on.keeps on.reached p j more once in
    record { keeps = one.keeps; reached = one.reached; least = omega (arith, h.least, on.least, one.least) }

-- what the loop has reached before the turn with a step
pub reached_last : (levels : ℕ) (numbering : Numbering) (definitions : List Defined) (hidden : List Name) (tokens : List Read) (m : Expander) (l : Listing)
    (before items : List Read) → items ≡ before ++ addition before items → Reached levels numbering definitions hidden tokens m l (addition before items)
    → (step : PlacedStep Taken) (n : Expander) (k : Listing) (more : List Read) → (comes : ComesTo m l items step n k more)
    → ReachedAdded levels numbering definitions hidden tokens m l before comes.last comes.list more
reached_last levels numbering definitions hidden tokens m l before items keeps r step n k more comes =
    let h = reached_over levels numbering definitions hidden tokens m l before items keeps r comes.between comes.list comes.some comes.over in
    let on = reached_added levels numbering definitions hidden tokens comes.between comes.list before comes.some h.keeps h.reached comes.last more comes.gives in
    record { keeps = on.keeps; reached = on.reached; least = omega (arith, h.least, on.least) }

-- how a fault is come to
pub fault_comes : (m : Expander) (l : Listing) (items : List Read) (n : Expander) (k : Listing) (more : List Read) (h : PlacedHalt) (fault : PlacedFault)
    → h ≡ halt.Fault fault → ComesToCall m l items (Err h) n k more → ComesTo m l items (Err (Error fault)) n k more × (is_out_of_memory fault.0 ≡ false)
fault_comes m l items n k more h fault e comes =
    let c : ComesToCall m l items (Err (halt.Fault fault)) n k more = subst (λ (x : PlacedHalt). ComesToCall m l items (Err x) n k more) e comes in c
