-- Each effect of a directive's line is a step of the source's reader.
use Rattle.std.proofs.Common.{◌≡◌, ◌≢◌, ◌∙◌, inl, inr, Bool, true, false, ◌||◌, not, ℕ, List, [], ◌∷◌, ◌++◌, drop, refl, ap, sym, subst, Option, Some, None, is_some}
use Rattle.std.specs.Prelude.{pos, ◌-ℤ◌, Ok, Err, nat_lt, length}
use Rattle.pp_lexer.specs.declared.rules.Rules.{Rules}
use Rattle.pp_lexer.specs.declared.token.Location.{Location}
use Rattle.pp_lexer.specs.declared.token.Token.{Token}
use Rattle.pp_lexer.specs.declared.token.TokenValue.{TokenValue}
use Rattle.pp_model.specs.Names.{Name}
use Rattle.pp_model.specs.Definitions.{Definition, Definitions, with_change}
use Rattle.pp_model.specs.Emitting.{answers_at, expansion_limit}
use Rattle.pp_model.specs.Sights.{sight_of}
use Rattle.pp_model.specs.Blocks.{part_of}
use Rattle.pp_model.specs.SourceReader.{Earlier, SourceReader}
use Rattle.pp_model.specs.Lines.{include_line}
use Rattle.pp_model.specs.Moves.{BlockFacts, Effect, gives_item, asks, passes, defines, undefines, tests, decides, renumbers, directive_move}
use Rattle.pp_model.specs.inner.Moves.{taking_more}
use Rattle.pp_model.specs.Acts.{defined_in, pause_at, outcome_at, advanced_by, decided, effect_on, perform}
use Rattle.pp_model.specs.inner.Acts.{after_line, after_condition}
use Rattle.pp_model.specs.Reads.{numbered_line, Does}
use Rattle.pp_model.specs.inner.Reads.{after_line_number}
use Rattle.pp_model.specs.declared.block.Part.{Part}
use Rattle.pp_model.specs.declared.block.Part.TheVariants as part
use Rattle.pp_model.specs.declared.definition.Named.{Named}
use Rattle.pp_model.specs.declared.directive.Directive.{Directive}
use Rattle.pp_model.specs.declared.outcome.IncludeLine.{IncludeLine}
use Rattle.pp_model.specs.declared.outcome.Outcome.TheVariants as outcome
use Rattle.pp_model.specs.declared.sight.Sight.TheVariants as sight
use Rattle.pp_model.specs.declared.step.Step.{Step as Did}
use Rattle.pp_model.specs.declared.step.Step.TheVariants as step
use Rattle.pp_model.proofs.source.MovesLemmas.{skips, Passes, plain, unread, parting, skipping, closing, Decides as HasCondition, opening, choosing, directive_holds}
use Rattle.pp_macros.specs.Item.{PlacedStep}
use Rattle.pp_macros.specs.inner.Defined.{meaning_of}
use Rattle.pp_macros.specs.inner.OpenBlocks.{last_block, outer_blocks, with_last, kept_facts, facts_among, is_live_among, block_parted, block_branched, block_change}
use Rattle.pp_macros.specs.declared.blocks.OpenBlock.{OpenBlock}
use Rattle.pp_macros.specs.inner.Source.{Source, IsAfterFault, offset_from, had_text, is_first_directive, Pauses, DefinesOver, HasEffect, holds, faulty, numbers, unnumbered as faulty_number, Makes}
use Rattle.pp_macros.specs.inner.SourceMoves.{directive_line}
use Rattle.pp_rs.specs.inner.Stands.{StandsReading, StandsForReader}
use Rattle.pp_macros.proofs.work.DirectiveLineLemmas.{begins_directive, quiet_word}
use Rattle.pp_directives.proofs.ConditionActsLemmas.{with_last_is}
use Rattle.pp_rs.proofs.source.RenumberedLemmas.{numbered_after}
use Rattle.pp_rs.proofs.source.EarlierLemmas.{same_earlier}
use Rattle.pp_rs.proofs.source.DirectiveBeforeLemmas.{hash_in_front, word_adds}
use Rattle.pp_rs.proofs.blocks.BlockStackLemmas.{mapped_some}
use Rattle.pp_rs.proofs.blocks.BranchLemmas.{skipped_dead, read_untaken}
use Rattle.pp_rs.proofs.source.Simulates.{GoesOn, Simulated, SimulatesIn}
use Rattle.pp_rs.proofs.source.StandsAfterLemmas.{stands_with}
use Rattle.pp_rs.proofs.source.StandsBlockLemmas.{opened_read, opened_unread, closed_last, parted_last, skipped_last, decided_last}
use Rattle.pp_rs.proofs.source.StandsLineLemmas.{stands_line, line_stays}
use Rattle.pp_rs.proofs.source.StandsQuietLemmas.{stands_two}
use Rattle.pp_rs.proofs.source.StepHereLemmas.{acts, of_reading, goes_by, gives_here, line_here, falls_by, fault_stands, fails_here, pauses_here, passes_line}
use Rattle.pp_rs.proofs.source.LinePlaces.{whole_line, PausesAt}
use Rattle.pp_rs.proofs.source.FaultLengthLemmas.{CanFail, fault_there}
use Rattle.pp_rs.specs.inner.StandsPast.{dead_count}
use Rattle.pp_model.specs.Places.{PlacedFault}
use Rattle.pp_model.specs.Onward.{IsPastFault, numbered_by}
use Rattle.pp_model.specs.Faults.{after_fault}
use Rattle.pp_model.specs.declared.read.Taken.TheVariants as taken
use Rattle.std.proofs.Math.Bool.{and-false}

defined_now : {old : Source} {r : SourceReader} (s : StandsReading old r) (name : Name) {found : Option Definition}
    → meaning_of old.definitions name ≡ found → r.definitions name ≡ found
defined_now s name known = ap (λ (m : Definitions). m name) s.definitions ∙ known

module _ {old : Source} {r : SourceReader} (s : StandsReading old r) (move : PlacedStep Token) (new : Source)
    {directive : Directive} {word : Location} (e : sight_of old.rest ≡ sight.Directive directive word) where
  -- a step of the reader over the line
  steps_by : (did : Did) (t : SourceReader) → acts old r ≡ record { step = did; after = after_line r }
      → Does (answers_at expansion_limit) r did (after_line r) None t → GoesOn (dead_count old.dead_for_good) r None t
  steps_by did t a does = goes_by s a does refl

  -- a directive may fail, and an item is there
  can : CanFail old.rules (is_live_among old.dead_for_good old.blocks) (sight_of old.rest)
  can = subst (CanFail old.rules (is_live_among old.dead_for_good old.blocks)) (sym e) tt

  some : old.rest ≢ []
  some = fault_there old.rules (is_live_among old.dead_for_good old.blocks) old.rest can

  -- the fault of a line that is read
  faulty_line : {did : Did} {x t : SourceReader} {fault : PlacedFault} (u : SourceReader) → acts old r ≡ record { step = did; after = x }
      → Does (answers_at expansion_limit) r did x (Some (taken.Fault fault)) u → fault.1.asks ≡ None
      → IsPastFault (answers_at expansion_limit) (dead_count old.dead_for_good) r did t → StandsForReader new t
      → Simulated (Some (taken.Fault fault)) old r new
  faulty_line {t = t} u a does quiet past stands = record { after = t; goes = falls_by s u some a does quiet past; stands = stands }

  -- the effect of the line, on both sides
  abbrev ActsBy : Effect → Type 0
  ActsBy effect = acts old r ≡ effect_on effect r (advanced_by (whole_line old.rest) r)

  abbrev Has : Effect → Type 0
  Has effect = HasEffect effect (whole_line old.rest) directive_line (block_change (part_of directive) word) old move new

  -- the pause after a line, which does this to the blocks
  changed : (p : Option Part) → part_of directive ≡ p → (taken : ℕ) (condition : Option Bool)
      → Pauses taken directive_line (block_change (part_of directive) word condition old.blocks) old move new
      → Pauses taken directive_line (block_change p word condition old.blocks) old move new
  changed p its taken condition h = subst (λ (q : Option Part). Pauses taken directive_line (block_change q word condition old.blocks) old move new) its h

  -- the same where the innermost block changes
  last_changed : (p : Option Part) → part_of directive ≡ p → (condition : Option Bool) (change : OpenBlock → OpenBlock)
      → block_change p word condition old.blocks ≡ with_last change old.blocks → (block : OpenBlock) → last_block old.blocks ≡ Some block
      → Pauses (whole_line old.rest) directive_line (block_change (part_of directive) word condition old.blocks) old move new
      → Pauses (whole_line old.rest) directive_line (outer_blocks old.blocks ++ change block ∷ []) old move new
  last_changed p its condition change is block last h =
      subst (λ (blocks : List OpenBlock). Pauses (whole_line old.rest) directive_line blocks old move new) (is ∙ with_last_is change old.blocks block last)
      (changed p its (whole_line old.rest) condition h)

  plain_simulates : part_of directive ≡ None → ActsBy passes → Has passes → SimulatesIn move old r new
  plain_simulates its a h = let there = changed None its (whole_line old.rest) None h in passes_line s move new a (there.0, line_stays s e its there.1 there.2)

  item_simulates : part_of directive ≡ None → (value : Bool → Bool → TokenValue) → ActsBy (gives_item value word) → Has (gives_item value word)
      → SimulatesIn move old r new
  item_simulates its value a h =
      let shown = value (had_text old) (is_first_directive old) in
      let same : acts old r ≡ outcome_at (outcome.Token (record { value = shown; location = word })) (advanced_by (whole_line old.rest) r) =
      a ∙ ap (λ (before : Earlier). outcome_at (outcome.Token (record { value = value before.text (not (before.directive || before.text)); location = word }))
      (advanced_by (whole_line old.rest) r)) (sym (same_earlier s)) in
      rw h.0 (record {
        after = after_line r;
        goes = gives_here s (line_here s (λ n. outcome_at (outcome.Token (record { value = shown; location = word })) (advanced_by n r)) same) refl;
        stands = of_reading (line_stays s e its h.1 h.2);
      })

  -- an `#include` line that asks for its text
  asking_simulates : part_of directive ≡ None → (line : IncludeLine) → ActsBy (asks line) → Has (asks line) → SimulatesIn move old r new
  asking_simulates its line a h =
      let stands : StandsReading new (after_line r) = line_stays s e its h.1 h.2 in
      rw h.0 (record {
        after = after_line r;
        goes = gives_here s (line_here s (λ n. outcome_at (outcome.Include line) (advanced_by n r)) a) (and-false (nat_lt r.position (length r.items)));
        stands = of_reading stands;
      })

  -- the name stood for nothing, for the same or for something else
  define_over : part_of directive ≡ None → (named : Named) → acts old r ≡ record { step = step.Defines named; after = after_line r }
      → (before : Option Definition) → meaning_of old.definitions named.name ≡ before
      → DefinesOver named before (whole_line old.rest) directive_line old move new → SimulatesIn move old r new
  define_over its named a None known h =
      let t = record (after_line r) { definitions = with_change r.definitions named.name (Some named.definition) } in
      rw h.0 (record {
        after = t;
        goes = steps_by (step.Defines named) t a (rw (defined_now s named.name known) (refl, refl));
        stands = of_reading (stands_line s e (with_change r.definitions named.name (Some named.definition)) its h.1
            (ap (λ (m : Definitions). with_change m named.name (Some named.definition)) s.definitions ∙ sym h.2.meaning));
      })
  define_over its named a (Some before) known (inl h) =
      rw h.1 (record {
        after = after_line r;
        goes = steps_by (step.Defines named) (after_line r) a (rw (defined_now s named.name known) (refl, inl (h.0, refl)));
        stands = of_reading (line_stays s e its h.2 h.3);
      })
  define_over its named a (Some before) known (inr h) =
      rw h.1 (faulty_line (after_line r) a (rw (defined_now s named.name known, s.here.text) (refl, inr (h.0, refl))) refl refl
      (fault_stands s move new can h.2))

  define_simulates : part_of directive ≡ None → (named : Named) → ActsBy (defines named) → Has (defines named) → SimulatesIn move old r new
  define_simulates its named a h =
      let there = line_here s (λ n. record { step = step.Defines (defined_in r.text named); after = advanced_by n r }) a in
      define_over its (defined_in old.text named)
      (subst (λ (text : ℕ). acts old r ≡ record { step = step.Defines (defined_in text named); after = after_line r }) s.here.text there)
      (meaning_of old.definitions named.name) refl h

  undefine_simulates : part_of directive ≡ None → (name : Name) → ActsBy (undefines name) → Has (undefines name) → SimulatesIn move old r new
  undefine_simulates its name a h =
      pauses_here s move new (line_here s (λ n. pause_at (record (advanced_by n r) { definitions = with_change r.definitions name None })) a) (
        h.0,
        stands_line s e (with_change r.definitions name None) its h.1
            (ap (λ (m : Definitions). with_change m name None) s.definitions ∙ sym h.2.meaning),
      )

  -- the lines after a `#line` with a fault are numbered from its first number
  numbered_stands : (first : Option ℕ) → IsAfterFault (record old { line_offset = offset_from old word first }) new
      → StandsForReader new (numbered_by (after_fault (dead_count old.dead_for_good) r) word first)
  numbered_stands None left = fault_stands s move new can left
  numbered_stands (Some n) left =
      let offset = λ (rules : Rules). pos n -ℤ pos (numbered_line rules word.line) in
      subst (λ (t : SourceReader). StandsForReader new t) (numbered_after r (offset r.rules) (dead_count old.dead_for_good))
      (fault_stands (stands_with old r s old.definitions r.definitions old.contents r.contents (offset old.rules) (offset r.rules) s.definitions s.contents
      (ap offset s.rules)) move new can left)

  number_simulates : part_of directive ≡ None → (tokens : List Token) → ActsBy (renumbers word tokens) → Has (renumbers word tokens)
      → SimulatesIn move old r new
  number_simulates its tokens a (numbers n number pauses) =
      let there = line_here s (λ n. record { step = step.LineNumber word tokens; after = advanced_by n r }) a in
      let offset = λ (rules : Rules). pos n -ℤ pos (numbered_line rules word.line) in
      rw pauses.0 (record {
        after = after_line_number r word n;
        goes = steps_by (step.LineNumber word tokens) (after_line_number r word n) there (Ok n, rw (s.here.text, s.definitions, s.rules, s.here.line_offset) number, (refl, refl));
        stands = of_reading (line_stays (stands_with old r s old.definitions r.definitions old.contents r.contents (offset old.rules) (offset r.rules) s.definitions s.contents (ap offset s.rules)) e its pauses.1 pauses.2);
      })
  number_simulates its tokens a (faulty_number fault first number is failed left) =
      let there = line_here s (λ n. record { step = step.LineNumber word tokens; after = advanced_by n r }) a in
      rw failed (faulty_line r there (Err fault, rw (s.here.text, s.definitions, s.rules, s.here.line_offset) number, (refl, refl)) refl
      (first, rw (s.here.text, s.definitions, s.rules, s.here.line_offset) is, refl) (numbered_stands first left))

  -- a line whose condition holds or not, or is at fault
  condition_simulates : (tokens : List Token) → ActsBy (decides word tokens)
      → ((value : Bool) → Pauses (whole_line old.rest) directive_line (block_change (part_of directive) word (Some value) old.blocks) old move new
      → PausesAt move new (after_condition r value))
      → Has (decides word tokens) → SimulatesIn move old r new
  condition_simulates tokens a stands (holds value condition pauses) =
      let there_acts = line_here s (λ n. record { step = step.Condition word tokens; after = advanced_by n r }) a in
      let there = stands value pauses in
      rw there.0 (record {
        after = after_condition r value;
        goes = steps_by (step.Condition word tokens) (after_condition r value) there_acts (Ok value, rw (s.here.text, s.definitions, s.rules, s.here.line_offset) condition, (refl, refl));
        stands = of_reading there.1;
      })
  condition_simulates tokens a stands (faulty fault condition failed left) =
      let there_acts = line_here s (λ n. record { step = step.Condition word tokens; after = advanced_by n r }) a in
      rw failed (faulty_line r there_acts (Err fault, rw (s.here.text, s.definitions, s.rules, s.here.line_offset) condition, (refl, refl)) refl refl
      (fault_stands s move new can left))

  -- lines of blocks: a block opens,
  ask_simulates : is_live_among old.dead_for_good old.blocks ≡ true → part_of directive ≡ Some part.Opens → (asked : Bool → Bool) (name : Name)
      → ActsBy (tests asked name) → Has (tests asked name) → SimulatesIn move old r new
  ask_simulates alive its asked name a h =
      let holds_now = asked (is_some (meaning_of old.definitions name)) in
      pauses_here s move new
      (line_here s (λ n. pause_at (decided r.position (asked (is_some (r.definitions name))) (advanced_by n r))) a
      ∙ ap (λ (m : Definitions). pause_at (after_condition r (asked (is_some (m name))))) s.definitions)
      (opened_read s e holds_now alive its (changed (Some part.Opens) its (whole_line old.rest) (Some holds_now) h))

  open_simulates : is_live_among old.dead_for_good old.blocks ≡ true → part_of directive ≡ Some part.Opens → (tokens : List Token)
      → ActsBy (decides word tokens) → Has (decides word tokens) → SimulatesIn move old r new
  open_simulates alive its tokens a h =
      condition_simulates tokens a (λ value pauses.
      opened_read s e value alive its (changed (Some part.Opens) its (whole_line old.rest) (Some value) pauses)) h

  unread_simulates : is_live_among old.dead_for_good old.blocks ≡ false → part_of directive ≡ Some part.Opens → ActsBy passes
      → Has passes → SimulatesIn move old r new
  unread_simulates dead its a h = passes_line s move new a (opened_unread s e dead its (changed (Some part.Opens) its (whole_line old.rest) None h))

  -- or the innermost one is parted or closes
  part_simulates : part_of directive ≡ Some part.Else → (found : BlockFacts) → facts_among old.blocks ≡ Some found → ActsBy passes → Has passes
      → SimulatesIn move old r new
  part_simulates its found is a h =
      let (block, last, facts) = mapped_some kept_facts (last_block old.blocks) found is in
      passes_line s move new a (parted_last s e block last its (last_changed (Some part.Else) its None block_parted refl block last h))

  skip_simulates : part_of directive ≡ Some part.Elif → (found : BlockFacts) → facts_among old.blocks ≡ Some found → skips found ≡ true
      → ActsBy passes → Has passes → SimulatesIn move old r new
  skip_simulates its found is skipped a h =
      let (block, last, facts) = mapped_some kept_facts (last_block old.blocks) found is in
      let dead : skips (kept_facts block) ≡ true = ap skips facts ∙ skipped in
      passes_line s move new a (skipped_last s e block last its (skipped_dead block.live_around block.taken dead)
      (last_changed (Some part.Elif) its None (block_branched None) refl block last h))

  choose_simulates : part_of directive ≡ Some part.Elif → (found : BlockFacts) → facts_among old.blocks ≡ Some found → skips found ≡ false
      → (tokens : List Token) → ActsBy (decides word tokens) → Has (decides word tokens) → SimulatesIn move old r new
  choose_simulates its found is reads tokens a h =
      let (block, last, facts) = mapped_some kept_facts (last_block old.blocks) found is in
      let live : skips (kept_facts block) ≡ false = ap skips facts ∙ reads in
      let first = read_untaken block.live_around block.taken live in
      condition_simulates tokens a (λ value pauses. decided_last s e block last its first.0 first.1 value
      (last_changed (Some part.Elif) its (Some value) (block_branched (Some value)) refl block last pauses)) h

  close_simulates : part_of directive ≡ Some part.Closes → (found : BlockFacts) → facts_among old.blocks ≡ Some found → ActsBy passes → Has passes
      → SimulatesIn move old r new
  close_simulates its found is a h =
      let (block, last, facts) = mapped_some kept_facts (last_block old.blocks) found is in
      passes_line s move new a (closed_last s e block last its (changed (Some part.Closes) its (whole_line old.rest) None h))

  passes_simulates : (live : Bool) → is_live_among old.dead_for_good old.blocks ≡ live → Passes live (facts_among old.blocks) directive → ActsBy passes → Has passes
      → SimulatesIn move old r new
  passes_simulates live alive (plain its) a h = plain_simulates its a h
  passes_simulates live alive (unread now its) a h = unread_simulates (alive ∙ now) its a h
  passes_simulates live alive (parting its found is none) a h = part_simulates its found is a h
  passes_simulates live alive (skipping its found is none skipped) a h = skip_simulates its found is skipped a h
  passes_simulates live alive (closing its found is) a h = close_simulates its found is a h

  decides_simulates : (live : Bool) → is_live_among old.dead_for_good old.blocks ≡ live → HasCondition live (facts_among old.blocks) directive
      → (tokens : List Token) → ActsBy (decides word tokens) → Has (decides word tokens) → SimulatesIn move old r new
  decides_simulates live alive (opening now its) tokens a h = open_simulates (alive ∙ now) its tokens a h
  decides_simulates live alive (choosing its found is none reads) tokens a h = choose_simulates its found is reads tokens a h

  -- after an unknown word in dead text the line is dead text
  unknown_simulates : is_live_among old.dead_for_good old.blocks ≡ false → part_of directive ≡ None → acts old r ≡ pause_at (advanced_by 2 r)
      → Pauses 2 directive_line (block_change (part_of directive) word None old.blocks) old move new → SimulatesIn move old r new
  unknown_simulates dead its a h =
      let b = begins_directive old.rest directive word e in
      let there = changed None its 2 None h in
      pauses_here s move new a (
        there.0,
        stands_two s (λ alive. let bad : true ≡ false = sym alive ∙ dead in cc) e b.hash b.name b.after
            (hash_in_front b.hash (b.name ∷ b.after) (sight.Directive directive word) (b.seen b.after) refl) refl refl (word_adds old.rest directive word e) b.front
            (λ later. quiet_word r.position old.rest later directive word b its) there.1 there.2,
      )

  -- the line of a directive is the reader's step, in live and in dead text
  pub directive_simulates : (live : Bool) → is_live_among old.dead_for_good old.blocks ≡ live
      → acts old r ≡ perform (taking_more 2 (directive_move old.rules live (facts_among old.blocks) directive word (drop 2 old.rest))) r
      → Makes directive_line (block_change (part_of directive) word)
      (taking_more 2 (directive_move old.rules live (facts_among old.blocks) directive word (drop 2 old.rest))) old move new
      → SimulatesIn move old r new
  directive_simulates live alive =
      directive_holds (λ m. acts old r ≡ perform (taking_more 2 m) r → Makes directive_line (block_change (part_of directive) word) (taking_more 2 m) old move new
      → SimulatesIn move old r new)
      old.rules (facts_among old.blocks) word (drop 2 old.rest) live directive (record {
        failing = λ fault a h. fails_here s move new a can h.0 h.1;
        refusing = λ fault a h. fails_here s move new a can h.0 h.1;
        unknown = λ now its a h. unknown_simulates (alive ∙ now) its a h;
        passing = λ why a h. passes_simulates live alive why a h;
        items = λ now its value is a h. item_simulates its value a h;
        asking = λ now its a h. asking_simulates (ap part_of its) (include_line word (drop 2 old.rest)) a h;
        defining = λ now its named is a h. define_simulates its named a h;
        undefining = λ now its name a h. undefine_simulates its name a h;
        numbering = λ now its tokens a h. number_simulates its tokens a h;
        testing = λ now its asked name a h. ask_simulates (alive ∙ now) its asked name a h;
        deciding = λ why tokens a h. decides_simulates live alive why tokens a h;
      })
