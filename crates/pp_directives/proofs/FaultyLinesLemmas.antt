-- Lines of `#undef`, `#else` and `#endif`, and lines that aren't read, that have a fault.
use Rattle.std.proofs.Common.{◌≡◌, ◌∙◌, ◌⊎◌, inl, inr, ℕ, ◌≤◌, Bool, true, false, List, [], ◌∷◌, length, take, drop, ap, sym, refl, subst, arith, Option, Some, None, Result, Ok, Err}
use Rattle.std.specs.Prelude.{ℤ, option_map, if◌then◌else◌}
use Rattle.std.specs.Result.{result_ok}
use Rattle.pp_lexer.specs.Lexed.{Seen}
use Rattle.pp_lexer.specs.declared.rules.Rules.{Rules}
use Rattle.pp_lexer.specs.declared.token.Location.{Location}
use Rattle.pp_lexer.specs.declared.token.PreprocessorError.TheVariants.{UnknownDirective}
use Rattle.pp_expression.specs.Answers.{◌>>=◌}
use Rattle.pp_directives.specs.inner.LineEnds.{passed_end}
use Rattle.pp_model.specs.Places.{Fault, placed}
use Rattle.pp_model.specs.DefineLines.{undefined_on}
use Rattle.pp_model.specs.Faults.{is_shown}
use Rattle.pp_model.specs.Lines.{line_length, line_fault, line_end, include_line, ended_line}
use Rattle.pp_model.specs.Moves.{BlockFacts, Effect, asks, fails, passes, undefines, failing, line_move, include_move, else_effect, else_move, endif_move, skip_move, unread_move}
use Rattle.pp_model.specs.Names.{Name}
use Rattle.pp_model.specs.SourceReader.{Earlier}
use Rattle.pp_model.specs.declared.block.Part.TheVariants as part
use Rattle.pp_model.specs.declared.definition.Placed.{Placed}
use Rattle.pp_model.specs.declared.directive.Directive.TheVariants as d
use Rattle.pp_macros.specs.declared.blocks.OpenBlock.{OpenBlock}
use Rattle.pp_macros.specs.declared.halt.Halt.{Halt}
use Rattle.pp_macros.specs.declared.halt.Halt.TheVariants as halt
use Rattle.pp_macros.specs.inner.Defined.{Defined, IsChanged}
use Rattle.pp_macros.specs.inner.Faults.{nothing_left, endif_left, IsUndefined}
use Rattle.pp_macros.specs.inner.LineReading.{shown_on, passed_line, unless_fault, endif_end}
use Rattle.pp_macros.specs.inner.OpenBlocks.{unchanged, block_change, facts_among, kept_facts, last_block, outer_blocks}
use Rattle.pp_macros.specs.inner.Source.{SuspendedText}
use Rattle.pp_macros.specs.inner.SourceLexed.{SourceLexed, unreported_at}
use Rattle.pp_macros.specs.inner.Unreported.{IsMet}
use Rattle.pp_directives.specs.inner.DirectiveHalts.{of_line}
use Rattle.pp_directives.specs.inner.ReadingLines.{first_free_name, ReadsPart, ReadsNext, ReadsLine, ReadsBy}
use Rattle.pp_directives.proofs.FurtherLemmas.{GoesFurther, goes_then}
use Rattle.pp_directives.specs.inner.SourceActs.{taken_after, HasLeft, FailsWith, Acts, line_act, plain_act, directive_act}
use Rattle.pp_directives.proofs.FaultTakenLemmas.{part_taken, line_effect, line_taken, unread_effect, word_hides, first_length}
use Rattle.pp_directives.proofs.LineReadingLemmas.{drop_fewer, free_is_first}
use Rattle.pp_directives.proofs.PartsShownLemmas.{first_fails, second_shown, end_shown, name_goes_on}
use Rattle.pp_directives.proofs.ShownLemmas.{fails_shown, same_taken, mapped_shown}
use Rattle.pp_directives.proofs.SourceActsLemmas.{source_of, acts_failed}
use Rattle.pp_directives.proofs.UnreportedLemmas.{reports_after}

-- a line that isn't read has the fault that it has where it is passed
pub unread_fails : (rules : Rules) (effect : Effect) (items : List Seen) (fault : Fault) → passed_line rules.passes_dead_errors items ≡ Err fault
    → (unread_move rules effect items).effect ≡ fails fault
unread_fails rules effect items fault e = by rules rules.passes_dead_errors refl (line_fault items) refl e
  where
    by : (rules : Rules) (skips : Bool) → rules.passes_dead_errors ≡ skips → (found : Option Fault) → line_fault items ≡ found
        → passed_line rules.passes_dead_errors items ≡ Err fault → (unread_move rules effect items).effect ≡ fails fault
    by rules true w found f e = let bad : passed_line true items ≡ Err fault = rw w at e in cc
    by rules false w None f e = let bad : unless_fault None (Ok tt) ≡ Err fault = rw (w, f) at e in cc
    by rules false w (Some other) f e = let same : ◌≡◌ {A = Result (Unit {0}) Fault} (unless_fault (Some other) (Ok tt)) (Err fault) = rw (w, f) at e in
        let is : other ≡ fault = cc in rw (w, f) (ap fails is)

-- ---- an `#undef`

undef_shown : (rules : Rules) (word : Location) (rest after : List Seen) (first : Placed) → first_free_name rules word rest ≡ Ok first → after ≡ drop 1 rest
    → drop (shown_on (undefined_on rules word) rest) rest ≡ drop (shown_on (ended_line word) after) after
undef_shown rules word rest after first e d =
    rw d (second_shown (first_free_name rules word) (λ found items. ended_line word items >>= λ end. Ok found.name) (λ s items. refl) rest first e
    (λ s items f. name_goes_on word first s items (free_is_first rules _ first f)) refl
    ∙ same_taken (λ items. ended_line word items >>= λ end. Ok first.name) (ended_line word)
    (λ items. mapped_shown (λ end. first.name) (ended_line word items)) (drop 1 rest))

-- the end of the line has a fault
undef_fails : (fault : Fault) (rules : Rules) (word : Location) (first : Placed) (old mid new : SourceLexed) → first_free_name rules word old.rest ≡ Ok first
    → mid.rest ≡ drop 1 old.rest → GoesFurther old mid → unreported_at mid ≡ unreported_at old
    → ReadsNext {A = Unit {0}} (λ t. t) (ended_line word) mid (Err (halt.Fault fault)) new
    → ReadsLine {A = Name} (λ name. name) (undefined_on rules word) old (Err (halt.Fault fault)) new
undef_fails fault rules word first old mid new e d went same p = record {
  is = ap (λ (r : Result Placed Fault). r >>= λ found. ended_line word (drop 1 old.rest) >>= λ end. Ok found.name) e
      ∙ ap (λ (r : List Seen). ended_line word r >>= λ end. Ok first.name) (sym d)
      ∙ ap (λ (r : Result (Unit {0}) Fault). r >>= λ end. Ok first.name) p.is;
  takes = record {
    rest = end_shown word mid.rest new.rest fault p.is p.takes.rest p.fault ∙ sym (undef_shown rules word old.rest mid.rest first e d);
    further = goes_then old mid new went p.takes.further;
    spent = p.takes.spent;
  };
  fault = p.fault;
  errors = reports_after false {A = Unit {0}} (Err (halt.Fault fault)) (unreported_at old) (unreported_at mid) (unreported_at new) same p.errors;
}

module _ (rules : Rules) (text : ℕ) (earlier : Earlier) (around : List SuspendedText) (definitions : List Defined) (blocks : List OpenBlock)
    (line_offset : ℤ) (has_text has_directive dead : Bool) (contents : ℕ) (word : Location) where
  -- a line of an `#undef` with a fault, of which this is known of the definitions
  undef_failed : (fault : Fault) (later : List Defined) (old new : SourceLexed)
      → IsUndefined (option_map (λ (first : Placed). first.name) (result_ok (first_free_name rules word old.rest))) definitions later
      → ReadsLine {A = Name} (λ name. name) (undefined_on rules word) old (Err (halt.Fault fault)) new
      → Acts (directive_act rules true (facts_among blocks) d.Undef word old.rest)
      (source_of old rules text earlier around definitions blocks line_offset has_text has_directive dead contents) (Err (of_line (halt.Fault fault)))
      (source_of new rules text earlier around later blocks line_offset has_text has_directive dead contents)
  undef_failed fault later old new gone read =
      acts_failed false (λ (name : Name). name) (halt.Fault fault) (undefined_on rules word) (line_length old.rest) _ _ unchanged unchanged _
      rules text earlier around definitions later blocks blocks line_offset has_text has_directive dead contents old new
      (λ found e. ap (λ line. (line_move line undefines old.rest).effect) e)
      (line_taken (undefined_on rules word) (λ items. undefines) (λ items name. refl) refl old.rest) refl gone (omega arith) (inr (omega arith)) read

  -- the name has one
  pub name_failed : {A : Type 0} (shows : A → Placed) (h : Halt) (old new : SourceLexed) → ReadsNext shows (first_free_name rules word) old (Err h) new
      → Acts (directive_act rules true (facts_among blocks) d.Undef word old.rest)
      (source_of old rules text earlier around definitions blocks line_offset has_text has_directive dead contents) (Err (of_line h))
      (source_of new rules text earlier around definitions blocks line_offset has_text has_directive dead contents)
  name_failed shows (halt.Fault fault) old new read =
      undef_failed fault definitions old new (rw read.is refl)
      (first_fails (first_free_name rules word) (λ found items. ended_line word items >>= λ end. Ok found.name) (λ s items. refl) shows (λ (name : Name). name) (halt.Fault fault)
      (line_length old.rest) old new read)
  name_failed shows halt.OutOfMemory old new read = record { acts = tt; holds = tt; errors = tt }

  -- the line has more than the name
  pub name_followed : (h : Halt) (first : Placed) (later : List Defined) (old mid new : SourceLexed) → first_free_name rules word old.rest ≡ Ok first
      → mid.rest ≡ drop 1 old.rest → GoesFurther old mid → unreported_at mid ≡ unreported_at old
      → IsChanged first.name None definitions later
      → ReadsNext {A = Unit {0}} (λ t. t) (ended_line word) mid (Err h) new
      → Acts (directive_act rules true (facts_among blocks) d.Undef word old.rest)
      (source_of old rules text earlier around definitions blocks line_offset has_text has_directive dead contents) (Err (of_line h))
      (source_of new rules text earlier around later blocks line_offset has_text has_directive dead contents)
  name_followed (halt.Fault fault) first later old mid new e d went same gone read =
      undef_failed fault later old new (rw e gone) (undef_fails fault rules word first old mid new e d went same read)
  name_followed halt.OutOfMemory first later old mid new e d went same gone read = record { acts = tt; holds = tt; errors = tt }

  -- ---- an `#else` and an `#endif`

  else_effect_first : (block : Option BlockFacts) (line : Result (Unit {0}) Fault) (a b : List Seen)
      → (line_move line (λ end. else_effect block word) a).effect ≡ (line_move line (λ end. else_effect block word) b).effect
  else_effect_first block (Ok end) a b = refl
  else_effect_first block (Err fault) a b = refl

  else_taken : (block : Option BlockFacts) (rest after : List Seen) (effect : Effect) → (else_move block word rest).effect ≡ effect → after ≡ drop 1 rest
      → (is_shown effect ≡ true) ⊎ (after ≡ []) → after ≡ drop (taken_after (λ items. (else_move block word items).effect) (take (line_length rest) rest)) rest
  else_taken block [] after effect e d h = d
  else_taken block (s ∷ rest) after effect e d h =
      d ∙ ap (λ (n : ℕ). drop n (s ∷ rest)) (sym (word_hides (λ items. (else_move block word items).effect) (take (line_length (s ∷ rest)) (s ∷ rest)) refl
      ∙ first_length (λ items. (else_move block word items).effect) s rest (by h)))
    where
      by : (is_shown effect ≡ true) ⊎ (after ≡ []) → (is_shown (else_move block word (s ∷ [])).effect ≡ true) ⊎ (rest ≡ [])
      by (inl shown) = inl (ap is_shown (else_effect_first block (ended_line word (s ∷ [])) (s ∷ []) (s ∷ rest) ∙ e) ∙ shown)
      by (inr none) = inr (sym d ∙ none)

  -- one after which the blocks are as they were
  else_stops : (block : Option BlockFacts) (fault : Fault) (old new : SourceLexed) → (else_move block word old.rest).effect ≡ fails fault → new.rest ≡ drop 1 old.rest
      → GoesFurther old new → new.spent ≡ false → (is_shown (fails fault) ≡ true) ⊎ (new.rest ≡ []) → IsMet fault (unreported_at old) (unreported_at new)
      → Acts (line_act (block_change (Some part.Else) word) nothing_left (else_move block word) old.rest)
      (source_of old rules text earlier around definitions blocks line_offset has_text has_directive dead contents) (Err (of_line (halt.Fault fault)))
      (source_of new rules text earlier around definitions blocks line_offset has_text has_directive dead contents)
  else_stops block fault old new e d went unspent h met =
      let taken = taken_after (λ items. (else_move block word items).effect) (take (line_length old.rest) old.rest) in
      let before = source_of old rules text earlier around definitions blocks line_offset has_text has_directive dead contents in
      let behind = source_of new rules text earlier around definitions blocks line_offset has_text has_directive dead contents in
      record {
        acts = subst (λ (effect : Effect). FailsWith effect before (placed text fault) (λ from. HasLeft taken nothing_left from behind)) (sym e) (
          refl,
          record {
            rules = refl;
            text = refl;
            earlier = refl;
            around = refl;
            contents = refl;
            has_text = refl;
            rest = else_taken block old.rest new.rest (fails fault) e d h;
            further = went;
            fewer = omega (arith, drop_fewer old.rest new.rest 1 d);
            blocks = refl;
            definitions = refl;
            line_offset = refl;
            has_directive = refl;
            dead_for_good = refl;
            spent = unspent;
          },
        );
        holds = tt;
        errors = met;
      }

  -- its end has a fault
  pub else_failed : (block : Option BlockFacts) (h : Halt) (old new : SourceLexed) → ReadsNext {A = Unit {0}} (λ t. t) (ended_line word) old (Err h) new
      → Acts (line_act (block_change (Some part.Else) word) nothing_left (else_move block word) old.rest)
      (source_of old rules text earlier around definitions blocks line_offset has_text has_directive dead contents) (Err (of_line h))
      (source_of new rules text earlier around definitions blocks line_offset has_text has_directive dead contents)
  else_failed block (halt.Fault fault) old new read =
      else_stops block fault old new (ap (λ line. (line_move line (λ end. else_effect block word) old.rest).effect) read.is) read.takes.rest read.takes.further read.takes.spent read.fault read.errors
  else_failed block halt.OutOfMemory old new read = record { acts = tt; holds = tt; errors = tt }

  -- the end of an `#endif`
  pub endif_failed : (block : OpenBlock) (h : Halt) (after : List OpenBlock) (old new : SourceLexed) → last_block blocks ≡ Some block → after ≡ outer_blocks blocks
      → length after ≤ length blocks → ReadsBy rules.passes_dead_errors (endif_end block.live_around rules.passes_dead_errors word) old (Err h) new
      → Acts (line_act (block_change (Some part.Closes) word) (endif_left (facts_among blocks) word) (endif_move rules (facts_among blocks) word) old.rest)
      (source_of old rules text earlier around definitions blocks line_offset has_text has_directive dead contents) (Err (of_line h))
      (source_of new rules text earlier around definitions after line_offset has_text has_directive dead contents)
  endif_failed block h after old new last made few read =
      rw last (acts_failed rules.passes_dead_errors (λ t. t) h (endif_end block.live_around rules.passes_dead_errors word) (line_length old.rest) _ _
      (block_change (Some part.Closes) word) (block_change (Some part.Closes) word) None
      rules text earlier around definitions definitions blocks after line_offset has_text has_directive dead contents old new
      (λ found e. fails_by block.live_around found e)
      (part_taken (λ items. (endif_move rules (Some (kept_facts block)) word items).effect) (endif_end block.live_around rules.passes_dead_errors word)
      (shows_by block.live_around) (none_by block.live_around rules.passes_dead_errors) old.rest)
      made refl (omega (arith, few)) (inr few) read)
    where
      fails_by : (live : Bool) (found : Fault) → endif_end live rules.passes_dead_errors word old.rest ≡ Err found
          → (if live then line_move (ended_line word old.rest) (λ end. passes) old.rest else skip_move rules old.rest).effect ≡ fails found
      fails_by true found e = ap (λ line. (line_move line (λ end. passes) old.rest).effect) e
      fails_by false found e = unread_fails rules passes old.rest found e

      shows_by : (live : Bool) (items : List Seen)
          → is_shown (if live then line_move (ended_line word items) (λ end. passes) items else skip_move rules items).effect
          ≡ fails_shown (endif_end live rules.passes_dead_errors word items)
      shows_by true items = line_effect (ended_line word items) (λ end. passes) items (λ end. refl)
      shows_by false items = unread_effect rules passes items refl

      none_by : (live skips : Bool) → fails_shown (endif_end live skips word []) ≡ false
      none_by true skips = refl
      none_by false true = refl
      none_by false false = refl

  -- ---- an `#include` that asks for its text

  end_fault : (from : ℕ) (rest : List Seen) (line : Result (Unit {0}) Fault) (fault : Fault) → ◌≡◌ {A = Result ℕ Fault} (line >>= λ done. Ok (line_end from rest)) (Err fault)
      → line ≡ Err fault
  end_fault from rest (Ok done) fault e = cc
  end_fault from rest (Err other) fault e = let same : other ≡ fault = cc in ap (λ (f : Fault). Err f) same

  none_passed : (from : ℕ) (skips : Bool) → fails_shown (passed_end skips from []) ≡ false
  none_passed from true = refl
  none_passed from false = refl

  pub include_failed : (from : ℕ) (h : Halt) (old new : SourceLexed) → rules.asks_includes ≡ true
      → ReadsPart rules.passes_dead_errors {A = ℕ} (λ t. t) (passed_end rules.passes_dead_errors from old.rest) (line_length old.rest)
      (shown_on (passed_end rules.passes_dead_errors from) old.rest) old (Err h) new
      → Acts (plain_act (include_move rules word) old.rest)
      (source_of old rules text earlier around definitions blocks line_offset has_text has_directive dead contents) (Err (of_line h))
      (source_of new rules text earlier around definitions blocks line_offset has_text has_directive dead contents)
  include_failed from h old new asked read =
      let unread : (items : List Seen) → (include_move rules word items).effect ≡ (unread_move rules (asks (include_line word items)) items).effect =
      λ items. ap (λ (b : Bool). (if b then unread_move rules (asks (include_line word items)) items else failing (UnknownDirective, word)).effect) asked in
      acts_failed rules.passes_dead_errors (λ (t : ℕ). t) h (passed_end rules.passes_dead_errors from) (line_length old.rest) _ _ unchanged unchanged None
      rules text earlier around definitions definitions blocks blocks line_offset has_text has_directive dead contents old new
      (λ found e. unread old.rest ∙ unread_fails rules (asks (include_line word old.rest)) old.rest found (end_fault from old.rest (passed_line rules.passes_dead_errors old.rest) found e))
      (part_taken (λ items. (include_move rules word items).effect) (passed_end rules.passes_dead_errors from)
      (λ items. ap is_shown (unread items) ∙ unread_effect rules (asks (include_line word items)) items refl
      ∙ sym (mapped_shown (λ done. line_end from items) (passed_line rules.passes_dead_errors items)))
      (none_passed from rules.passes_dead_errors) old.rest)
      refl refl (omega arith) (inr (omega arith)) read
