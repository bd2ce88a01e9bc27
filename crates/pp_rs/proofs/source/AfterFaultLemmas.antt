-- After a fault of its items a source stands for the reader after that fault.
use Rattle.std.proofs.Common.{◌≡◌, ◌≢◌, ◌∙◌, ℕ, ◌+◌, Bool, true, false, ◌||◌, List, [], ◌++◌, take, drop, refl, sym, ap, subst, Option, Some, None}
use Rattle.std.specs.Prelude.{option_map}
use Rattle.std.specs.Option.{option_map_or}
use Rattle.std.specs.Result.{result_ok}
use Rattle.std.proofs.lemmas.List.{drop-drop, take-append-drop}
use Rattle.pp_lexer.specs.Lexed.{Seen}
use Rattle.pp_lexer.specs.declared.rules.Rules.{Rules}
use Rattle.pp_lexer.specs.declared.token.Location.{Location}
use Rattle.pp_expression.specs.Answers.{◌>>=◌}
use Rattle.pp_model.specs.Blocks.{blocks_at}
use Rattle.pp_model.specs.Definitions.{Definitions, with_change}
use Rattle.pp_model.specs.DefineLines.{free_name}
use Rattle.pp_model.specs.Faults.{facts_past, left_line, truths_left, definitions_left, fault_length, after_fault}
use Rattle.pp_model.specs.Lines.{first_name}
use Rattle.pp_model.specs.Moves.{BlockFacts}
use Rattle.pp_model.specs.Sights.{sight_of}
use Rattle.pp_model.specs.SourceReader.{Suspended, SourceReader, suspended_of}
use Rattle.pp_model.specs.declared.definition.Placed.{Placed}
use Rattle.pp_model.specs.declared.directive.Directive.{Directive}
use Rattle.pp_model.specs.declared.directive.Directive.TheVariants as d
use Rattle.pp_model.specs.declared.sight.Sight.{Sight}
use Rattle.pp_model.specs.declared.sight.Sight.TheVariants as sight
use Rattle.pp_directives.specs.inner.Suspending.{suspended}
use Rattle.pp_directives.specs.inner.Lined.{AreLined, AreEnded, ShowErrors}
use Rattle.pp_directives.proofs.LinedLemmas.{lined_after}
use Rattle.pp_directives.proofs.EndedLemmas.{ended_further}
use Rattle.pp_macros.specs.inner.Defined.{Defined, meaning_of}
use Rattle.pp_macros.specs.inner.Faults.{fault_taken, left_at, left_of, IsUndefined}
use Rattle.pp_macros.specs.inner.OpenBlocks.{facts_among, is_live_among}
use Rattle.pp_macros.specs.inner.Source.{SuspendedText, Source, IsAfterFault}
use Rattle.pp_macros.specs.declared.blocks.OpenBlock.{OpenBlock}
use Rattle.pp_rs.specs.inner.StandsPast.{dead_count, StandPast}
use Rattle.pp_rs.specs.inner.Stands.{StandsForText, StandsAt, reading, reported, StandForTexts, StandsForReader}
use Rattle.pp_rs.proofs.source.FaultLeftLemmas.{sight_leaves}
use Rattle.pp_rs.proofs.source.FaultLengthLemmas.{CanFail, fault_follows, fault_there, fault_begins, live_kept, facts_kept, taken_kept}
use Rattle.pp_rs.proofs.source.FaultTextLemmas.{kept_left, text_left}
use Rattle.pp_rs.proofs.source.JoinLemmas.{Follow, shown_after}

-- where something is left no block was reported
pub still_reading : {kept : SuspendedText} {there : Suspended} → StandsAt kept there → kept.rest ≢ [] → StandsForText kept there
still_reading (reading kept there s) some = s
still_reading (reported last kept there others those s over found same after) some = absurd (some (ap (λ (t : SuspendedText). t.rest) same ∙ over))

-- a text that is kept with the same of all that counts; where the items stand doesn't
pub record SameKept (kept other : SuspendedText) : Type 0 where
  pub text : other.text ≡ kept.text
  pub rest : other.rest ≡ kept.rest
  pub blocks : other.blocks ≡ kept.blocks
  pub line_offset : other.line_offset ≡ kept.line_offset
  pub has_text : other.has_text ≡ kept.has_text
  pub has_directive : other.has_directive ≡ kept.has_directive
  pub dead_for_good : other.dead_for_good ≡ kept.dead_for_good

pub stands_alike : {kept other : SuspendedText} {there : Suspended} → SameKept kept other → StandsForText kept there → StandsForText other there
stands_alike {kept} {other} {there} same s = record {
  text = s.text ∙ sym same.text;
  rest = same.rest ∙ s.rest;
  within = s.within;
  line_offset = s.line_offset ∙ sym same.line_offset;
  lined = s.lined;
  ended = s.ended;
  shown = s.shown;
  lines = s.lines;
  blocks = subst (λ (dead : Bool). StandPast (dead_count dead) there.items there.truths other.blocks (blocks_at there.items there.position)) (sym same.dead_for_good)
      (subst (λ (blocks : List OpenBlock). StandPast (dead_count kept.dead_for_good) there.items there.truths blocks (blocks_at there.items there.position))
      (sym same.blocks) s.blocks);
  truths = s.truths;
  unfinished = s.unfinished;
  remembers_text = same.has_text ∙ s.remembers_text;
  remembers_directive = same.has_directive ∙ s.remembers_directive;
  directives = s.directives;
  off_line = λ live some. s.off_line
      (ap (λ (dead : Bool). is_live_among dead kept.blocks) (sym same.dead_for_good) ∙ ap (is_live_among other.dead_for_good) (sym same.blocks) ∙ live)
      (λ none. some (same.rest ∙ none));
}

-- ---- the names that an `#undef` with a fault undefines

undefined_by : (rules : Rules) (word : Location) (after : List Seen) (found : Option Placed) (before : Definitions) (old new : List Defined) → before ≡ meaning_of old
    → IsUndefined (option_map (λ first. first.name) found) old new
    → option_map_or (λ first. with_change before first.name None) found before ≡ meaning_of new
undefined_by rules word after None before old new is h = is ∙ ap meaning_of (sym h)
undefined_by rules word after (Some first) before old new is h = ap (λ (m : Definitions). with_change m first.name None) is ∙ sym h.meaning

module _ (r : SourceReader) (rest : List Seen) (same : rest ≡ drop r.position r.items) (old new : List Defined) (is : r.definitions ≡ meaning_of old) where
  undef_leaves : (word : Location)
      → IsUndefined (option_map (λ first. first.name) (result_ok (first_name word (drop 2 rest) >>= free_name r.rules))) old new
      → definitions_left true (sight.Directive d.Undef word) r ≡ meaning_of new
  undef_leaves word h =
      let there : drop (r.position + 2) r.items ≡ drop 2 rest = sym (drop-drop 2 r.position r.items) ∙ ap (drop 2) (sym same) in
      ap (λ (after : List Seen). option_map_or (λ (first : Placed). with_change r.definitions first.name None)
      (result_ok (first_name word after >>= free_name r.rules)) r.definitions) there
      ∙ undefined_by r.rules word (drop 2 rest) (result_ok (first_name word (drop 2 rest) >>= free_name r.rules)) r.definitions old new is h

  nothing_undefined : new ≡ old → r.definitions ≡ meaning_of new
  nothing_undefined h = is ∙ ap meaning_of (sym h)

  directive_undefines : (live : Bool) (facts : Option BlockFacts) (directive : Directive) (word : Location)
      → IsUndefined (left_at r.rules live facts (sight.Directive directive word) (drop 2 rest)).undefined old new
      → definitions_left live (sight.Directive directive word) r ≡ meaning_of new
  directive_undefines true None d.Undef word h = undef_leaves word h
  directive_undefines true (Some block) d.Undef word h = undef_leaves word h
  directive_undefines false None d.Elif word h = nothing_undefined h
  directive_undefines false (Some block) d.Elif word h = nothing_undefined h
  directive_undefines true None _ word h = nothing_undefined h
  directive_undefines true (Some block) _ word h = nothing_undefined h
  directive_undefines false None _ word h = nothing_undefined h
  directive_undefines false (Some block) _ word h = nothing_undefined h

  pub sight_undefines : (live : Bool) (facts : Option BlockFacts) (shown : Sight) → IsUndefined (left_at r.rules live facts shown (drop 2 rest)).undefined old new
      → definitions_left live shown r ≡ meaning_of new
  sight_undefines live facts (sight.Directive directive word) h = directive_undefines live facts directive word h
  sight_undefines true facts _ h = nothing_undefined h
  sight_undefines false facts _ h = nothing_undefined h

-- ---- the text

module _ {kept : SuspendedText} (r : SourceReader) (s : StandsForText kept (suspended_of r))
    (can : CanFail r.rules (is_live_among kept.dead_for_good kept.blocks) (sight_of kept.rest)) where
  some_left : kept.rest ≢ []
  some_left = fault_there r.rules (is_live_among kept.dead_for_good kept.blocks) kept.rest can

  lined_whole : AreLined (take r.position r.items ++ kept.rest)
  lined_whole = subst AreLined (sym (ap (λ rest. take r.position r.items ++ rest) s.rest ∙ take-append-drop r.position r.items)) s.lined

  lined_rest : AreLined kept.rest
  lined_rest = subst AreLined (sym s.rest) (lined_after r.position r.items s.lined)

  ended_rest : AreEnded kept.rest
  ended_rest = subst AreEnded (sym s.rest) (ended_further r.position r.items s.ended)

  shown_rest : ShowErrors kept.rest
  shown_rest = subst ShowErrors (sym s.rest) (shown_after r.position r.items s.shown)

  abbrev taken : ℕ
  taken = fault_taken r.rules kept.dead_for_good kept.blocks kept.rest

  follows : Follow (take r.position r.items) (drop taken (drop r.position r.items))
  follows = subst (λ (rest : List Seen). Follow (take r.position r.items) (drop taken rest)) s.rest
      (fault_follows r.rules (is_live_among kept.dead_for_good kept.blocks) (facts_among kept.blocks) (take r.position r.items) kept.rest
      lined_whole lined_rest ended_rest shown_rest can)

  -- what is left of the text by what is known of its position
  abbrev left_by : Bool → Option BlockFacts → ℕ → List Seen → Suspended
  left_by live facts count rest = text_left (left_line live facts (sight_of rest)) count (truths_left facts (sight_of rest) r) (suspended_of r)

  left_alike : suspended_of (after_fault (dead_count kept.dead_for_good) r)
      ≡ left_by (is_live_among kept.dead_for_good kept.blocks) (facts_among kept.blocks) taken kept.rest
  left_alike =
      ap (λ live. left_by live (facts_past (dead_count kept.dead_for_good) r) (fault_length (dead_count kept.dead_for_good) r) (drop r.position r.items))
      (live_kept r s)
      ∙ ap (λ facts. left_by (is_live_among kept.dead_for_good kept.blocks) facts (fault_length (dead_count kept.dead_for_good) r) (drop r.position r.items))
      (facts_kept r s)
      ∙ ap (λ count. left_by (is_live_among kept.dead_for_good kept.blocks) (facts_among kept.blocks) count (drop r.position r.items)) (taken_kept r s)
      ∙ ap (left_by (is_live_among kept.dead_for_good kept.blocks) (facts_among kept.blocks) taken) (sym s.rest)

  -- After the fault the text, as it is kept then, stands for that of the reader after the fault.
  pub text_after : StandsForText (kept_left taken (left_of r.rules kept.dead_for_good kept.blocks kept.rest) kept)
      (suspended_of (after_fault (dead_count kept.dead_for_good) r))
  text_after =
      subst (λ (there : Suspended). StandsForText (kept_left taken (left_of r.rules kept.dead_for_good kept.blocks kept.rest) kept) there) (sym left_alike)
      (sight_leaves r s taken some_left follows (is_live_among kept.dead_for_good kept.blocks) refl (facts_among kept.blocks) refl
      (sight_of kept.rest) (fault_begins (take r.position r.items) kept.rest some_left lined_whole))

  -- So do the definitions.
  pub definitions_after : (old new : List Defined) → r.definitions ≡ meaning_of old
      → IsUndefined (left_of r.rules kept.dead_for_good kept.blocks kept.rest).undefined old new
      → (after_fault (dead_count kept.dead_for_good) r).definitions ≡ meaning_of new
  definitions_after old new is h =
      ap (λ live. definitions_left live (sight_of (drop r.position r.items)) r) (live_kept r s)
      ∙ ap (λ (rest : List Seen). definitions_left (is_live_among kept.dead_for_good kept.blocks) (sight_of rest) r) (sym s.rest)
      ∙ sight_undefines r kept.rest s.rest old new is (is_live_among kept.dead_for_good kept.blocks) (facts_among kept.blocks) (sight_of kept.rest) h

-- ---- the source

module _ {old : Source} {r : SourceReader} (s : StandsForReader old r)
    (can : CanFail old.rules (is_live_among old.dead_for_good old.blocks) (sight_of old.rest)) where
  can_here : CanFail r.rules (is_live_among old.dead_for_good old.blocks) (sight_of old.rest)
  can_here = subst (λ (rules : Rules). CanFail rules (is_live_among old.dead_for_good old.blocks) (sight_of old.rest)) (sym s.rules) can

  -- the text that is read, of which nothing was reported
  pub here_reading : StandsForText (suspended old) (suspended_of r)
  here_reading = still_reading s.here (fault_there old.rules (is_live_among old.dead_for_good old.blocks) old.rest can)

  -- After a fault of its items a source stands for the reader after the fault.
  pub after_fault_stands : {new : Source} → IsAfterFault old new → StandsForReader new (after_fault (dead_count old.dead_for_good) r)
  after_fault_stands {new} a = record {
    rules = s.rules ∙ sym a.rules;
    here = reading (suspended new) (suspended_of (after_fault (dead_count old.dead_for_good) r)) (stands_alike {other = suspended new} (record {
      text = a.text;
      rest = a.rest ∙ ap (λ (rules : Rules). drop (fault_taken rules old.dead_for_good old.blocks old.rest) old.rest) (sym s.rules);
      blocks = a.blocks ∙ ap (λ (rules : Rules). (left_of rules old.dead_for_good old.blocks old.rest).change None old.blocks) (sym s.rules);
      line_offset = a.line_offset;
      has_text = a.has_text;
      has_directive = a.has_directive
          ∙ ap (λ (rules : Rules). (left_of rules old.dead_for_good old.blocks old.rest).is_directive || old.has_directive) (sym s.rules);
      dead_for_good = a.dead_for_good
          ∙ ap (λ (rules : Rules). (left_of rules old.dead_for_good old.blocks old.rest).is_dead || old.dead_for_good) (sym s.rules);
    }) (text_after r here_reading can_here));
    around = subst (λ (texts : List SuspendedText). StandForTexts texts r.around) (sym a.around) s.around;
    earlier = a.earlier ∙ s.earlier;
    definitions = definitions_after r here_reading can_here old.definitions new.definitions s.definitions
        (subst (λ (rules : Rules). IsUndefined (left_of rules old.dead_for_good old.blocks old.rest).undefined old.definitions new.definitions) (sym s.rules)
        a.definitions);
    contents = s.contents ∙ sym a.contents;
    unspent = a.spent;
  }
