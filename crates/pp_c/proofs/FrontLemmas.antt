-- Calls that begin alike have replies that begin alike.
use Rattle.std.proofs.Common.{◌≡◌, ◌∙◌, ℕ, ◌+◌, ◌-◌, ◌≤◌, min, max, inl, inr, false, List, [], ◌∷◌, ◌++◌, refl, ap, sym, arith, append_assoc}
use Rattle.std.specs.Prelude.{⊤}
use Rattle.std.proofs.lemmas.Bool.{cases_lt}
use Rattle.std.proofs.lemmas.List.{append-nil, replicate-append-replicate}
use Rattle.std.proofs.Math.ListN.{replicate}
use Rattle.pp_model.specs.Calls.{Answers}
use Rattle.pp_model.specs.Emitting.{answers_at, expansion_limit}
use Rattle.pp_model.specs.Onward.{Onward}
use Rattle.pp_model.specs.Painting.{item_of}
use Rattle.pp_model.specs.Reading.{Expander}
use Rattle.pp_model.specs.Run.{Call, add_define, include, next, items_by, start_by}
use Rattle.pp_model.specs.RunToEnd.{RunsToEnd, going_on}
use Rattle.pp_model.specs.RunToEnd as run
use Rattle.pp_model.specs.ToEndLaws.{OneRunToEnd}
use Rattle.pp_model.specs.declared.call.Reply.{Reply}
use Rattle.pp_model.specs.declared.call.Reply.TheVariants as reply
use Rattle.pp_model.specs.declared.outcome.Outcome.{Outcome}
use Rattle.pp_rs.specs.declared.rules.Rules.{Rules}
use Rattle.pp_c.specs.Calls.{adding, calls_from}
use Rattle.pp_c.specs.Fronts.{FrontsStay}
use Rattle.pp_c.specs.Preprocessed.{times_asked, outcomes_of, replies_to_next}
use Rattle.pp_c.specs.declared.items.Definition.{Definition}

-- each call adds a definition or includes a text
abbrev AreAdding : List Call → Type 0
AreAdding [] = ⊤
AreAdding (add_define name content ∷ calls) = AreAdding calls
AreAdding (include text ∷ calls) = AreAdding calls
AreAdding (next ∷ calls) = ⊥

-- the calls of a call that stops, and those of another, begin alike; the first only adds definitions after that
record BeginAlike (calls others : List Call) : Type 0 where
  pub front : List Call
  pub added : List Call
  pub more : List Call
  pub first : calls ≡ front ++ added
  pub second : others ≡ front ++ more
  pub only : AreAdding added

-- none is asked for
none_asked : (count : ℕ) → count ≡ 0 → (calls : List Call) → replicate count next ++ calls ≡ calls
none_asked count e calls = rw e refl

-- once all items were given, definitions are added
adds_only : (words : List ℕ) (all made : ℕ) (definitions : List Definition) → all ≤ made → AreAdding (calls_from false words all made definitions)
adds_only words all made [] h =
    let e : all - made ≡ 0 = omega (arith, h) in
    rw e tt
adds_only words all made (definition ∷ definitions) h =
    let e : min definition.after all - made ≡ 0 = omega (arith, h) in
    rw (none_asked (min definition.after all - made) e (adding words definition ∷ calls_from false words all (max made (min definition.after all)) definitions))
    (adds_only words all (max made (min definition.after all)) definitions (omega (arith, h)))

-- as many calls of `next`, and then some more
asked_more : (few many : ℕ) → few ≤ many → replicate many next ≡ replicate few next ++ replicate (many - few) next
asked_more few many h =
    let e : few + (many - few) ≡ many = omega (arith, h) in
    sym (replicate-append-replicate few (many - few) next ∙ ap (λ n. replicate n next) e)

begin_alike : (words : List ℕ) (few many made : ℕ) (definitions : List Definition) → made ≤ few → few ≤ many
    → BeginAlike (calls_from false words few made definitions) (calls_from false words many made definitions)
begin_alike words few many made [] begun less =
    let e : many - made - (few - made) ≡ many - few = omega (arith, begun, less) in
    record {
      front = replicate (few - made) next;
      added = [];
      more = replicate (many - few) next;
      first = sym (append-nil (replicate (few - made) next));
      second = asked_more (few - made) (many - made) (omega (arith, begun, less)) ∙ ap (λ n. replicate (few - made) next ++ replicate n next) e;
      only = tt;
    }
begin_alike words few many made (definition ∷ definitions) begun less = elim (cases_lt few definition.after) [
  | inl beyond ↦ (let a : min definition.after few ≡ few = omega (arith, beyond) in
      let rest = λ (all : ℕ). adding words definition ∷ calls_from false words all (max made (min definition.after all)) definitions in
      let n : min definition.after many - made - (few - made) ≡ min definition.after many - few = omega (arith, begun, less, beyond) in
      record {
        front = replicate (few - made) next;
        added = rest few;
        more = replicate (min definition.after many - few) next ++ rest many;
        first = ap (λ m. replicate (m - made) next ++ rest few) a;
        second = ap (λ calls. calls ++ rest many) (asked_more (few - made) (min definition.after many - made) (omega (arith, begun, less, beyond))
            ∙ ap (λ m. replicate (few - made) next ++ replicate m next) n)
            ∙ append_assoc (replicate (few - made) next) (replicate (min definition.after many - few) next) (rest many);
        only = adds_only words few (max made (min definition.after few)) definitions (omega (arith, a));
      })
  | inr within ↦ (let a : min definition.after few ≡ definition.after = omega (arith, within) in
      let b : min definition.after many ≡ definition.after = omega (arith, within, less) in
      let it = begin_alike words few many (max made definition.after) definitions (omega (arith, begun, within)) less in
      let before = λ (calls : List Call). replicate (definition.after - made) next ++ adding words definition ∷ calls in
      record {
        front = before it.front;
        added = it.added;
        more = it.more;
        first = ap (λ m. replicate (m - made) next ++ adding words definition ∷ calls_from false words few (max made m) definitions) a
            ∙ ap before it.first ∙ sym (append_assoc (replicate (definition.after - made) next) (adding words definition ∷ it.front) it.added);
        second = ap (λ m. replicate (m - made) next ++ adding words definition ∷ calls_from false words many (max made m) definitions) b
            ∙ ap before it.second ∙ sym (append_assoc (replicate (definition.after - made) next) (adding words definition ∷ it.front) it.more);
        only = it.only;
      })
]

replies_to_next-append : (xs ys : List Reply) → replies_to_next (xs ++ ys) ≡ replies_to_next xs ++ replies_to_next ys
replies_to_next-append [] ys = refl
replies_to_next-append (reply.Given o ∷ xs) ys = ap (λ os. o ∷ os) (replies_to_next-append xs ys)
replies_to_next-append (reply.Added ∷ xs) ys = replies_to_next-append xs ys
replies_to_next-append (reply.Refused fault ∷ xs) ys = replies_to_next-append xs ys
replies_to_next-append (reply.Included ∷ xs) ys = replies_to_next-append xs ys
replies_to_next-append (reply.TooDeep ∷ xs) ys = replies_to_next-append xs ys

module _ (A : Answers) (rules : Rules) where
  -- definitions that are added have no reply to `next`
  none_given : (e : Expander Onward) (calls : List Call) (replies : List Reply) → RunsToEnd A rules e calls replies → AreAdding calls
      → replies_to_next replies ≡ []
  none_given e calls replies (run.done e1 r p) h = rw p refl
  none_given e calls replies (run.added n c t e1 cs rest r has a p) h = rw p (none_given _ cs rest a h)
  none_given e calls replies (run.refused n c f e1 cs rest r has a p) h = rw p (none_given _ cs rest a h)
  none_given e calls replies (run.included t e1 cs rest r room a p) h = rw p (none_given _ cs rest a h)
  none_given e calls replies (run.too_deep t e1 cs rest r full a p) h = rw p (none_given _ cs rest a h)
  none_given e calls replies (run.given x e1 f cs rest r emits a p) h = absurd h

  -- the replies to the first calls, and those after them
  record Split (e : Expander Onward) (front more : List Call) (replies : List Reply) : Type 0 where
    pub firsts : List Reply
    pub rest : List Reply
    pub runs : RunsToEnd A rules e front firsts
    pub is : replies ≡ firsts ++ rest
    pub only : AreAdding more → replies_to_next rest ≡ []

  -- a call before others
  first_call : (x y : Call) (cs front more : List Call) → x ∷ cs ≡ y ∷ front ++ more → (y ≡ x) × (cs ≡ front ++ more)
  first_call x y cs front more e = (cc, cc)

  -- the same first call
  begin_with : (e : Expander Onward) (x y : Call) (front : List Call) (replies : List Reply) → y ≡ x → RunsToEnd A rules e (x ∷ front) replies
      → RunsToEnd A rules e (y ∷ front) replies
  begin_with e x y front replies same r = rw same r

  split_none : (e : Expander Onward) (calls more : List Call) (replies : List Reply) → RunsToEnd A rules e calls replies → calls ≡ more → Split e [] more replies
  split_none e calls more replies r same = record {
    firsts = [];
    rest = replies;
    runs = run.done e [] refl;
    is = refl;
    only = λ h. none_given e calls replies r (rw same h);
  }

  split : (e : Expander Onward) (calls : List Call) (replies : List Reply) → RunsToEnd A rules e calls replies → (front more : List Call) → calls ≡ front ++ more
      → Split e front more replies
  split e calls replies r [] more same = split_none e calls more replies r same
  split e calls replies (run.done e1 r p) (x ∷ front) more same = cc
  split e calls replies (run.added n c t e1 cs rest r has a p) (x ∷ front) more same =
      let it = first_call (add_define n c) x cs front more same in
      let s = split _ cs rest a front more it.1 in
      record {
        firsts = reply.Added ∷ s.firsts;
        rest = s.rest;
        runs = begin_with e _ x front _ it.0 (run.added n c t e1 front s.firsts _ has s.runs refl);
        is = p ∙ ap (λ rs. reply.Added ∷ rs) s.is;
        only = s.only;
      }
  split e calls replies (run.refused n c f e1 cs rest r has a p) (x ∷ front) more same =
      let it = first_call (add_define n c) x cs front more same in
      let s = split _ cs rest a front more it.1 in
      record {
        firsts = reply.Refused f ∷ s.firsts;
        rest = s.rest;
        runs = begin_with e _ x front _ it.0 (run.refused n c f e1 front s.firsts _ has s.runs refl);
        is = p ∙ ap (λ rs. reply.Refused f ∷ rs) s.is;
        only = s.only;
      }
  split e calls replies (run.included t e1 cs rest r room a p) (x ∷ front) more same =
      let it = first_call (include t) x cs front more same in
      let s = split _ cs rest a front more it.1 in
      record {
        firsts = reply.Included ∷ s.firsts;
        rest = s.rest;
        runs = begin_with e _ x front _ it.0 (run.included t e1 front s.firsts _ room s.runs refl);
        is = p ∙ ap (λ rs. reply.Included ∷ rs) s.is;
        only = s.only;
      }
  split e calls replies (run.too_deep t e1 cs rest r full a p) (x ∷ front) more same =
      let it = first_call (include t) x cs front more same in
      let s = split _ cs rest a front more it.1 in
      record {
        firsts = reply.TooDeep ∷ s.firsts;
        rest = s.rest;
        runs = begin_with e _ x front _ it.0 (run.too_deep t e1 front s.firsts _ full s.runs refl);
        is = p ∙ ap (λ rs. reply.TooDeep ∷ rs) s.is;
        only = s.only;
      }
  split e calls replies (run.given taken e1 f cs rest r emits a p) (x ∷ front) more same =
      let it = first_call next x cs front more same in
      let s = split f cs rest a front more it.1 in
      record {
        firsts = reply.Given (item_of taken) ∷ s.firsts;
        rest = s.rest;
        runs = begin_with e _ x front _ it.0 (run.given taken e1 f front s.firsts _ emits s.runs refl);
        is = p ∙ ap (λ rs. reply.Given (item_of taken) ∷ rs) s.is;
        only = s.only;
      }

-- what the first replies give, and those after them
given_by : (outcomes : List Outcome) (replies firsts rest : List Reply) → replies_to_next replies ≡ outcomes → replies ≡ firsts ++ rest
    → outcomes ≡ replies_to_next firsts ++ replies_to_next rest
given_by outcomes replies firsts rest gives is = sym gives ∙ ap replies_to_next is ∙ replies_to_next-append firsts rest

-- of two runs that begin alike the first gives the first of what the second gives, if nothing comes after that
alike_first : (front given : List Outcome) (firsts others rest more : List Reply) → front ≡ replies_to_next firsts ++ replies_to_next rest
    → replies_to_next rest ≡ [] → given ≡ replies_to_next others ++ replies_to_next more → firsts ≡ others → given ≡ front ++ replies_to_next more
alike_first front given firsts others rest more a none b same =
    let first : front ≡ replies_to_next firsts = a ∙ rw none (append-nil (replies_to_next firsts)) in
    b ∙ rw (first, same) refl

-- calls that begin alike give the same first
pub fronts_stay : OneRunToEnd → FrontsStay
fronts_stay one rules source words definitions front given has_ended f g less =
    let A = answers_at expansion_limit in
    let e = going_on [] (start_by rules (items_by rules source)) in
    let alike = begin_alike words (times_asked false front) (times_asked has_ended given) 0 definitions (omega arith) (omega (arith, less)) in
    let a = split A rules e _ f.replies f.run alike.front alike.added alike.first in
    let b = split A rules e _ g.replies g.run alike.front alike.more alike.second in
    let same = one rules source alike.front a.firsts b.firsts a.runs b.runs in (
      replies_to_next b.rest,
      alike_first (outcomes_of false front) (outcomes_of has_ended given) a.firsts b.firsts a.rest b.rest
          (given_by (outcomes_of false front) f.replies a.firsts a.rest f.gives a.is) (a.only alike.only)
          (given_by (outcomes_of has_ended given) g.replies b.firsts b.rest g.gives b.is) same,
    )
