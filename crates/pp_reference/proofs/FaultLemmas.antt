-- What a fault leaves of the reader, and what a step of a source gives.
use Rattle.std.proofs.Common.{◌≡◌, ◌∙◌, ap, sym, subst, refl, arith, ltb-true, ℕ, ◌<◌, Bool, true, false, ◌&&◌, List, [], ◌∷◌, drop, length, length-drop}
use Rattle.std.proofs.Common.{Option, Some, None, Result, Ok, Err, IfOk}
use Rattle.std.specs.Prelude.{⊤, ◌≤◌, is_none, nat_lt, option_map}
use Rattle.pp_lexer.specs.Lexed.{Seen}
use Rattle.pp_lexer.specs.declared.token.Location.{Location}
use Rattle.pp_lexer.specs.declared.token.Token.{Token}
use Rattle.pp_lexer.specs.declared.token.PreprocessorError.TheVariants.{UnknownDirective}
use Rattle.pp_model.specs.Places.{PlacedFault, asking}
use Rattle.pp_model.specs.Definitions.{Definition, Definitions}
use Rattle.pp_model.specs.Calls.{Answers}
use Rattle.pp_model.specs.Blocks.{Block, is_live}
use Rattle.pp_model.specs.Sights.{sight_of}
use Rattle.pp_model.specs.SourceReader.{Suspended, SourceReader}
use Rattle.pp_model.specs.Acts.{Acted, perform, leave, end_by}
use Rattle.pp_model.specs.inner.Acts.{items_left, after_line}
use Rattle.pp_model.specs.Reads.{Does, Defines, Evaluated}
use Rattle.pp_model.specs.Faults.{facts_past, move_past, after_fault}
use Rattle.pp_model.specs.Onward as onward
use Rattle.pp_model.specs.Onward.{Onward, act_on, act_here, dead_blocks, IsPastFault, dead_after, is_of_items, StepsOn, passed, faulty}
use Rattle.pp_model.specs.Painting.{taken_of}
use Rattle.pp_model.specs.declared.definition.Named.{Named}
use Rattle.pp_model.specs.declared.outcome.Outcome.{Outcome}
use Rattle.pp_model.specs.declared.outcome.Outcome.TheVariants as outcome
use Rattle.pp_model.specs.declared.read.Taken.{Taken}
use Rattle.pp_model.specs.declared.read.Taken.TheVariants as taken
use Rattle.pp_model.specs.declared.step.Step.{Step}
use Rattle.pp_model.specs.declared.step.Step.TheVariants as step
use Rattle.pp_model.proofs.source.ActsLemmas.{HoldsOfActs, sight_acts}
use Rattle.pp_model.proofs.including.MoveLemmas.{seen_end}
use Rattle.pp_reference.specs.inner.Acting.{Renumbering}
use Rattle.pp_reference.specs.inner.Faulting.{Counts, GivesBy, Gives, numbered_by, is_fault_among, went_on}
use Rattle.pp_reference.specs.declared.source_reader.stepping.Stepped.{Stepped}

-- ---- what a fault leaves

-- A fault leaves the reader, and a line that defines a name the reader but for the position.
abbrev pub Leaves : SourceReader → Step → SourceReader → Type 0
Leaves r (step.Given (outcome.Fault fault)) after = after ≡ r
Leaves r (step.Defines named) after = record after { position = r.position } ≡ r
Leaves r did after = ⊤

abbrev LeavesAct : SourceReader → Acted → Type 0
LeavesAct r a = Leaves r a.step a.after

acts_leave : (r : SourceReader) (s : Seen) (rest : List Seen) → drop r.position r.items ≡ s ∷ rest → HoldsOfActs (LeavesAct r) r
acts_leave r s rest p = record {
  end = λ there. let none = seen_end (drop r.position r.items) there in absurd cc;
  fault = λ found. refl;
  nothing = λ count least. tt;
  wanted = λ word tokens. tt;
  numbered = λ its word tokens. tt;
  asked = λ its word is. tt;
  defined = λ its word named is. refl;
  changed = λ its name. tt;
  decision = λ its holds. tt;
  token = λ its shown stands count least. tt;
}

pub act_leaves : (n : ℕ) (r : SourceReader) (s : Seen) (rest : List Seen) → drop r.position r.items ≡ s ∷ rest → LeavesAct r (act_on n (s ∷ rest) r)
act_leaves n r s rest p =
    subst (λ items. LeavesAct r (perform (move_past n r items) r)) p
    (sight_acts (LeavesAct r) r (acts_leave r s rest p) (is_live r.items r.truths r.position) refl (facts_past n r) (sight_of (drop r.position r.items)) refl)

items_leave : (n : ℕ) (r : SourceReader) (items : List Seen) → drop r.position r.items ≡ items → r.position < length r.items → LeavesAct r (act_on n items r)
items_leave n r [] p h = absurd (omega (arith, h, ap length p, length-drop r.position r.items))
items_leave n r (s ∷ rest) p h = act_leaves n r s rest p

leave_defines_nothing : (r : SourceReader) (around : List Suspended) (named : Named) → (leave around r).step ≡ step.Defines named → ⊥
leave_defines_nothing r [] named is = cc
leave_defines_nothing r (outer ∷ around) named is = cc

end_defines_nothing : (r : SourceReader) (block : Option Block) (named : Named) → (end_by block r).step ≡ step.Defines named → ⊥
end_defines_nothing r (Some block) named is = cc
end_defines_nothing r None named is = leave_defines_nothing r r.around named is

act_defines : (r : SourceReader) (named : Named) (a : Acted) → a.step ≡ step.Defines named → LeavesAct r a → a.after.definitions ≡ r.definitions
act_defines r named a is h =
    let there : Leaves r (step.Defines named) a.after = rw is at h in ap (λ (x : SourceReader). x.definitions) there

-- the definitions are left to the step
define_keeps : (n : ℕ) (r : SourceReader) (items : List Seen) (named : Named) → drop r.position r.items ≡ items
    → (act_on n items r).step ≡ step.Defines named → (act_on n items r).after.definitions ≡ r.definitions
define_keeps n r [] named p is = absurd (end_defines_nothing r _ named is)
define_keeps n r (s ∷ rest) named p is = act_defines r named (act_on n (s ∷ rest) r) is (act_leaves n r s rest p)

module _ (A : Answers) (r : SourceReader) (fault : PlacedFault) (asks : fault.1.asks ≡ None) (t : SourceReader) where
  define_stays : (named : Named) (old : Option Definition) (after : SourceReader) → record after { position = r.position } ≡ r
      → Defines r.text named old after (Some (taken.Fault fault)) t → record t { position = r.position } ≡ r
  define_stays named None after h d = let bad = d.0 in cc
  define_stays named (Some old) after h d = rw d.0 h

  line_stays : {V : Type 0} (v : Result V PlacedFault) (next : V → SourceReader) → Evaluated v next r (Some (taken.Fault fault)) t → record t { position = r.position } ≡ r
  line_stays (Ok value) next d = let bad = d.0 in cc
  line_stays (Err found) next d = rw d.1 refl

  given_stays : (x : Outcome) (after : SourceReader) → Leaves r (step.Given x) after → Some (taken.Fault fault) ≡ Some (taken_of r.text x) → t ≡ after
      → record t { position = r.position } ≡ r
  given_stays (outcome.Fault found) after h is at = let same : t ≡ r = at ∙ h in rw same refl
  given_stays (outcome.Token token) after h is at = cc
  given_stays (outcome.Include line) after h is at =
      let same : fault ≡ (UnknownDirective, asking r.text line) = cc in
      let bad : None ≡ Some line.rest = sym asks ∙ ap (λ (f : PlacedFault). f.1.asks) same in absurd cc
  given_stays outcome.End after h is at = cc

  -- a fault that asks for nothing leaves the reader but for the position
  pub fault_stays : (did : Step) (after : SourceReader) → Leaves r did after → Does A r did after (Some (taken.Fault fault)) t → record t { position = r.position } ≡ r
  fault_stays step.Passed after h d = let bad = d.0 in cc
  fault_stays (step.Given x) after h d = given_stays x after h d.0 d.1
  fault_stays (step.Defines named) after h d = define_stays named (r.definitions named.name) after h d
  fault_stays (step.Condition word tokens) after h d = line_stays d.0 _ d.2
  fault_stays (step.LineNumber word tokens) after h d = line_stays d.0 _ d.2

-- ---- what an act gives

abbrev pub comes : Step → SourceReader → Acted
comes did after = record { step = did; after = after }

module _ (A : Answers) (n : ℕ) (old : SourceReader) where
  pub gives_does : (did : Step) (after new : SourceReader) (stepped : Stepped) → act_on n (items_left old) old ≡ comes did after
      → Does A old did after stepped.taken new → Counts A old did stepped.counted → Gives A n old new stepped
  gives_does did after new stepped e does counts =
      subst (λ (a : Acted). GivesBy A a old new stepped) (sym e) (record { does = does; counts = counts })

  pub gives_defines : (named : Named) (after new : SourceReader) (taken : Option Taken) → act_on n (items_left old) old ≡ comes (step.Defines named) after
      → Defines old.text named (after.definitions named.name) after taken new → Gives A n old new (record { taken = taken; counted = None })
  gives_defines named after new taken e by =
      let left = define_keeps n old (items_left old) named refl (ap (λ (a : Acted). a.step) e) in
      let same : after.definitions ≡ old.definitions = sym (ap (λ (a : Acted). a.after.definitions) e) ∙ left in
      gives_does (step.Defines named) after new (record { taken = taken; counted = None }) e (rw (ap (λ (d : Definitions). d named.name) same) at by) refl

  -- a line whose value is wanted is passed once that is known
  pub gives_number : (word : Location) (tokens : List Token) (after new : SourceReader) (stepped : Stepped)
      → act_on n (items_left old) old ≡ comes (step.LineNumber word tokens) (after_line after) → after ≡ old
      → Renumbering A word tokens after stepped.taken new → Counts A after (step.LineNumber word tokens) stepped.counted → Gives A n old new stepped
  gives_number word tokens after new stepped e same by counts =
      let did = step.LineNumber word tokens in
      let there : Renumbering A word tokens old stepped.taken new = subst (λ (x : SourceReader). Renumbering A word tokens x stepped.taken new) same by in
      let counted : Counts A old did stepped.counted = subst (λ (x : SourceReader). Counts A x did stepped.counted) same counts in
      gives_does did (after_line old) new stepped (e ∙ ap (λ (x : SourceReader). comes did (after_line x)) same)
      (there.result, there.is, there.comes) counted

  pub gives_number_if_ok : {E : Type 0} (word : Location) (tokens : List Token) (after new : SourceReader) (result : Result Stepped E)
      → act_on n (items_left old) old ≡ comes (step.LineNumber word tokens) (after_line after) → after ≡ old
      → IfOk result (λ stepped. Renumbering A word tokens after stepped.taken new)
      → IfOk result (λ stepped. Counts A after (step.LineNumber word tokens) stepped.counted) → IfOk result (Gives A n old new)
  gives_number_if_ok word tokens after new (Ok stepped) e same by counts = gives_number word tokens after new stepped e same by counts
  gives_number_if_ok word tokens after new (Err error) e same by counts = tt

-- ---- a step

past_number : (n : ℕ) (r t : SourceReader) (word : Location) (number : Option ℕ) (counted : Option (Location × ℕ)) → counted ≡ option_map (λ n. (word, n)) number
    → t ≡ numbered_by (after_fault n r) counted → t ≡ onward.numbered_by (after_fault n r) word number
past_number n r t word None counted e is = rw e at is
past_number n r t word (Some k) counted e is = rw e at is

past_fault : (A : Answers) (n : ℕ) (r t : SourceReader) (did : Step) (counted : Option (Location × ℕ)) → Counts A r did counted
    → t ≡ numbered_by (after_fault n r) counted → IsPastFault A n r did t
past_fault A n r t (step.LineNumber word tokens) counted c is = (c.0, c.1, past_number n r t word c.0 counted c.2 is)
past_fault A n r t step.Passed counted c is = rw c at is
past_fault A n r t (step.Given x) counted c is = rw c at is
past_fault A n r t (step.Defines named) counted c is = rw c at is
past_fault A n r t (step.Condition word tokens) counted c is = rw c at is

both_true : (a b : Bool) → (a && b) ≡ true → (a ≡ true) × (b ≡ true)
both_true true b h = (refl, h)
both_true false b h = absurd cc

nothing_asked : (asks : Option Location) → is_none asks ≡ true → asks ≡ None
nothing_asked None h = refl
nothing_asked (Some rest) h = absurd cc

abbrev has_left : SourceReader → Bool
has_left r = nat_lt r.position (length r.items)

among_items : (r : SourceReader) (given : Option Taken) → is_of_items r given ≡ is_fault_among (has_left r) given
among_items r None = refl
among_items r (Some (taken.Token read)) = refl
among_items r (Some (taken.Fault fault)) = refl
among_items r (Some taken.End) = refl

module _ (A : Answers) (old : Onward) where
  pub steps_passed : (t : SourceReader) (stepped : Stepped) → Gives A (dead_blocks old) old.reader t stepped → is_fault_among (has_left old.reader) stepped.taken ≡ false
      → StepsOn A old stepped.taken (record old { reader = t })
  steps_passed t stepped gives none =
      passed stepped.taken t old (record old { reader = t }) gives.does (among_items old.reader stepped.taken ∙ none) refl

  faulted : (given : Option Taken) (counted : Option (Location × ℕ)) (mid back past t : SourceReader) (dead : List ℕ)
      → Gives A (dead_blocks old) old.reader mid (record { taken = given; counted = counted }) → is_fault_among (has_left old.reader) given ≡ true
      → back ≡ record mid { position = old.reader.position } → past ≡ after_fault (dead_blocks old) back → t ≡ numbered_by past counted
      → dead ≡ dead_after (dead_blocks old) back old.dead → StepsOn A old given (record { reader = t; dead = dead })
  faulted None counted mid back past t dead gives among b p n d = absurd cc
  faulted (Some (taken.Token read)) counted mid back past t dead gives among b p n d = absurd cc
  faulted (Some taken.End) counted mid back past t dead gives among b p n d = absurd cc
  faulted (Some (taken.Fault fault)) counted mid back past t dead gives among b p n d =
      let r = old.reader in
      let two = both_true (has_left r) (is_none fault.1.asks) among in
      let leaves = items_leave (dead_blocks old) r (items_left r) refl (ltb-true r.position (length r.items) two.0) in
      let same : back ≡ r = b ∙ fault_stays A r fault (nothing_asked fault.1.asks two.1) mid (act_here old).step (act_here old).after leaves gives.does in
      let there : t ≡ numbered_by (after_fault (dead_blocks old) r) counted = n ∙ ap (λ (x : SourceReader). numbered_by x counted) (p ∙ ap (after_fault (dead_blocks old)) same) in
      faulty mid t (Some (taken.Fault fault)) old (record { reader = t; dead = dead }) gives.does among
      (past_fault A (dead_blocks old) r t (act_here old).step counted gives.counts there)
      (ap (λ (x : List ℕ). record { reader = t; dead = x }) (d ∙ ap (λ (x : SourceReader). dead_after (dead_blocks old) x old.dead) same))

  pub steps_faulty : (mid : SourceReader) (stepped : Stepped) (new : Onward)
      → Gives A (dead_blocks old) old.reader mid stepped → is_fault_among (has_left old.reader) stepped.taken ≡ true
      → new ≡ went_on old.reader.position (dead_blocks old) stepped.counted (record old { reader = mid })
      → StepsOn A old stepped.taken new
  steps_faulty mid stepped new gives among is =
      rw is (faulted stepped.taken stepped.counted mid (record mid { position = old.reader.position })
      (after_fault (dead_blocks old) (record mid { position = old.reader.position })) _ _ gives among refl refl refl refl)

  within : (given : Option Taken) (counted : Option (Location × ℕ)) (mid : SourceReader) → Gives A (dead_blocks old) old.reader mid (record { taken = given; counted = counted })
      → is_fault_among (has_left old.reader) given ≡ true → old.reader.position ≤ length mid.items
  within None counted mid gives among = absurd cc
  within (Some (taken.Token read)) counted mid gives among = absurd cc
  within (Some taken.End) counted mid gives among = absurd cc
  within (Some (taken.Fault fault)) counted mid gives among =
      let r = old.reader in
      let two = both_true (has_left r) (is_none fault.1.asks) among in
      let inside = ltb-true r.position (length r.items) two.0 in
      let leaves = items_leave (dead_blocks old) r (items_left r) refl inside in
      let same = fault_stays A r fault (nothing_asked fault.1.asks two.1) mid (act_here old).step (act_here old).after leaves gives.does in
      let items : mid.items ≡ r.items = ap (λ (x : SourceReader). x.items) same in
      omega (arith, inside, ap length items)

  -- the position is one of the items that are left
  pub position_within : (mid : SourceReader) (stepped : Stepped) → Gives A (dead_blocks old) old.reader mid stepped
      → is_fault_among (has_left old.reader) stepped.taken ≡ true → old.reader.position ≤ length mid.items
  position_within mid stepped = within stepped.taken stepped.counted mid
