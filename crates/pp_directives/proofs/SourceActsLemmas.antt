-- A directive acts after its word, and after its number sign.
use Rattle.std.proofs.Common.{◌≡◌, ◌⊎◌, ℕ, ◌+◌, ◌<◌, ◌≤◌, Bool, true, false, List, [], ◌∷◌, length, take, drop, Option, Some, None, Result, Ok, Err, inl, inr, refl, sym, ◌∙◌, ap, subst, arith}
use Rattle.std.specs.Prelude.{ℤ, ◌-ℤ◌, pos}
use Rattle.std.specs.Result.{IsErrAnd}
use Rattle.std.proofs.lemmas.List.{drop-drop}
use Rattle.pp_lexer.specs.Lexed.{Seen}
use Rattle.pp_lexer.specs.declared.rules.Rules.{Rules}
use Rattle.pp_lexer.specs.declared.token.Location.{Location}
use Rattle.pp_lexer.specs.declared.token.Token.{Token}
use Rattle.pp_directives.specs.inner.DirectiveHalts.{of_line, placed_at, shown, unplaced_result}
use Rattle.pp_directives.specs.declared.given.Given.{Given}
use Rattle.pp_directives.specs.declared.given.Given.TheVariants as given
use Rattle.pp_directives.specs.declared.directive_halt.DirectiveHalt.{DirectiveHalt}
use Rattle.pp_lexer.specs.declared.token.PreprocessorError.TheVariants.{UnknownDirective}
use Rattle.pp_model.specs.Places.{Fault, PlacedFault, asking, placed, unasked}
use Rattle.pp_model.specs.Acts.{defined_in}
use Rattle.pp_model.specs.Definitions.{Definition}
use Rattle.pp_model.specs.declared.definition.Named.{Named}
use Rattle.pp_model.specs.DefineLines.{defined_on}
use Rattle.pp_model.specs.Lines.{line_length}
use Rattle.pp_model.specs.Names.{Name}
use Rattle.pp_model.specs.Faults.{is_shown}
use Rattle.pp_model.specs.Reads.{numbered_line}
use Rattle.pp_model.specs.declared.directive.Directive.TheVariants as d
use Rattle.pp_model.specs.SourceReader.{Earlier}
use Rattle.pp_macros.specs.inner.Defined.{Defined, meaning_of}
use Rattle.pp_macros.specs.inner.OpenBlocks.{last_block, facts_among, BlockChange, unchanged}
use Rattle.pp_macros.specs.declared.blocks.OpenBlock.{OpenBlock}
use Rattle.pp_macros.specs.inner.Source.{SuspendedText, Source, unreported_of, IsAfter, Ends, DefinesOver, HasEffect, Decides, holds, faulty, Renumbers, numbers, unnumbered}
use Rattle.pp_macros.specs.inner.Faults.{LineLeft, nothing_left, IsUndefined}
use Rattle.pp_macros.specs.inner.LineReading.{FaultTakesSome, shown_on}
use Rattle.pp_directives.specs.inner.ReadingLines.{ReadsPart, ReadsLine}
use Rattle.pp_directives.proofs.ShownLemmas.{fails_shown}
use Rattle.pp_directives.proofs.FaultTakenLemmas.{line_taken, line_effect, whole_taken, define_persists}
use Rattle.pp_directives.specs.inner.SourceActs.{taken_after, HasLeft, FailsWith, Stops, DoesAct, Acts, directive_act, define_act}
use Rattle.pp_macros.specs.inner.SourceLexed.{SourceLexed, unreported_at}
use Rattle.pp_model.specs.Moves.{Effect, gives, gives_item, asks, fails, ends, passes, defines, undefines, tests, decides, renumbers, Move, line_move}
use Rattle.pp_macros.specs.inner.SourceMoves.{Note, unnoted}
use Rattle.pp_macros.specs.declared.halt.Halt.{Halt}
use Rattle.pp_macros.specs.declared.halt.Halt.TheVariants as halt
use Rattle.pp_macros.specs.declared.halt.PlacedHalt.{PlacedHalt}
use Rattle.pp_macros.specs.declared.halt.PlacedHalt.TheVariants as placed_halt
use Rattle.pp_macros.specs.declared.step.PlacedExit.TheVariants.{Error, Continue, Finished}
use Rattle.pp_directives.proofs.LineReadingLemmas.{drop_fewer}
use Rattle.pp_directives.proofs.FurtherLemmas.{GoesFurther, further_then}
use Rattle.pp_directives.proofs.UnreportedLemmas.{reports_after}

-- an error that is known is the result
pub err_result : {A E : Type 0} (r : Result A E) (h : E) → IsErrAnd r (λ e. e ≡ h) → r ≡ Err h
err_result (Ok value) h e = absurd e
err_result (Err other) h e = ap Err e

-- a source after this lexer
abbrev pub source_of : SourceLexed → Rules → ℕ → Earlier → List SuspendedText → List Defined → List OpenBlock → ℤ → Bool → Bool → Bool → ℕ → Source
source_of l rules text earlier around definitions blocks line_offset has_text has_directive dead contents =
    record {
      rules = rules;
      text = text;
      earlier = earlier;
      around = around;
      rest = l.rest;
      places = l.places;
      over = l.over;
      error_place = l.error_place;
      definitions = definitions;
      blocks = blocks;
      line_offset = line_offset;
      spent = l.spent;
      has_text = has_text;
      has_directive = has_directive;
      dead_for_good = dead;
      contents = contents;
    }

-- a fault of a part of a line, or no memory for it; what stays of the line was done already
pub acts_failed : (passes : Bool) {A B : Type 0} (shows : A → B) (h : Halt) (part : List Seen → Result B Fault) (total taken : ℕ) (move : Move)
    (change kept : BlockChange) (undefined : Option Name) (rules : Rules) (text : ℕ) (earlier : Earlier) (around : List SuspendedText)
    (definitions later : List Defined) (blocks after : List OpenBlock) (line_offset : ℤ) (has_text has_directive dead : Bool) (contents : ℕ) (old new : SourceLexed)
    → ((fault : Fault) → part old.rest ≡ Err fault → move.effect ≡ fails fault) → taken ≡ shown_on part old.rest → after ≡ kept None blocks
    → IsUndefined undefined definitions later → length after ≤ length blocks + 1 → FaultTakesSome {A = A} (Err h) old new ⊎ (length after ≤ length blocks)
    → ReadsPart passes shows (part old.rest) total (shown_on part old.rest) old (Err h) new
    → Acts (record {
      move = move;
      change = change;
      taken = taken;
      left = record { change = kept; undefined = undefined; is_directive = false; is_dead = false };
    }) (source_of old rules text earlier around definitions blocks line_offset has_text has_directive dead contents) (Err (of_line h))
    (source_of new rules text earlier around later after line_offset has_text has_directive dead contents)
acts_failed by_rules shows (halt.Fault fault) part total taken move change kept undefined rules text earlier around definitions later blocks after line_offset has_text has_directive dead contents old new is same_taken opened gone many few read =
    let left : LineLeft = record { change = kept; undefined = undefined; is_directive = false; is_dead = false } in
    let before = source_of old rules text earlier around definitions blocks line_offset has_text has_directive dead contents in
    let behind = source_of new rules text earlier around later after line_offset has_text has_directive dead contents in
    let t = read.takes in
    record {
      acts = subst (λ (e : Effect). FailsWith e before (placed text fault) (λ from. HasLeft taken left from behind)) (sym (is fault read.is)) (
        refl,
        record {
          rules = refl;
          text = refl;
          earlier = refl;
          around = refl;
          contents = refl;
          has_text = refl;
          rest = t.rest ∙ ap (λ n. drop n old.rest) (sym same_taken);
          further = t.further;
          fewer = still_fewer old.rest new.rest (shown_on part old.rest) (length after) (length blocks) t.rest many few;
          blocks = opened;
          definitions = gone;
          line_offset = refl;
          has_directive = refl;
          dead_for_good = refl;
          spent = t.spent;
        },
      );
      holds = tt;
      errors = read.errors;
    }
  where
    still_fewer : (rest next : List Seen) (n opened blocks : ℕ) → next ≡ drop n rest → opened ≤ blocks + 1
        → (length next < length rest) ⊎ (opened ≤ blocks) → length next + opened ≤ length rest + blocks
    still_fewer rest next n opened blocks e many (inl some) = omega (arith, some, many)
    still_fewer rest next n opened blocks e many (inr few) = omega (arith, few, drop_fewer rest next n e)
acts_failed by_rules shows halt.OutOfMemory part total taken move change kept undefined rules text earlier around definitions later blocks after line_offset has_text has_directive dead contents old new is same_taken opened gone many few read =
    record { acts = tt; holds = tt; errors = tt }

-- so it is of a line that is read for a value
pub line_failed : {A B : Type 0} (shows : A → B) (h : Halt) (part : List Seen → Result B Fault) (effect : List Seen → B → Effect) (change kept : BlockChange)
    (rules : Rules) (text : ℕ) (earlier : Earlier) (around : List SuspendedText) (definitions : List Defined) (blocks after : List OpenBlock)
    (line_offset : ℤ) (has_text has_directive dead : Bool) (contents : ℕ) (old new : SourceLexed)
    → ((items : List Seen) (value : B) → is_shown (effect items value) ≡ false) → fails_shown (part []) ≡ false
    → after ≡ kept None blocks → length after ≤ length blocks → ReadsLine shows part old (Err h) new
    → Acts (record {
      move = line_move (part old.rest) (effect old.rest) old.rest;
      change = change;
      taken = taken_after (λ items. (line_move (part items) (effect items) items).effect) (take (line_length old.rest) old.rest);
      left = record { change = kept; undefined = None; is_directive = false; is_dead = false };
    }) (source_of old rules text earlier around definitions blocks line_offset has_text has_directive dead contents) (Err (of_line h))
    (source_of new rules text earlier around definitions after line_offset has_text has_directive dead contents)
line_failed shows h part effect change kept rules text earlier around definitions blocks after line_offset has_text has_directive dead contents old new hides none opened few read =
    acts_failed false shows h part (line_length old.rest) _ _ change kept None rules text earlier around definitions definitions blocks after line_offset has_text has_directive dead contents old new
    (λ fault e. ap (λ found. (line_move found (effect old.rest) old.rest).effect) e) (line_taken part effect hides none old.rest) opened refl (omega (arith, few)) (inr few) read

-- what a directive gives is no fault of its line, and not the end
pub shown_no_fault : (text other : ℕ) (given : Given) (fault : Fault) → shown text given ≡ Err (Error (placed other fault)) → ⊥
shown_no_fault text other given.Nothing fault e = cc
shown_no_fault text other (given.Item token) fault e = cc
shown_no_fault text other (given.Include line) fault e =
    let same : (UnknownDirective, asking text line) ≡ placed other fault = cc in
    let none : Some line.rest ≡ None = ap (λ (f : PlacedFault). f.1.asks) same in
    cc

pub shown_no_unasked : (text : ℕ) (given : Given) (fault : PlacedFault) → shown text given ≡ Err (Error (unasked fault)) → ⊥
shown_no_unasked text given.Nothing fault e = cc
shown_no_unasked text (given.Item token) fault e = cc
shown_no_unasked text (given.Include line) fault e =
    let same : (UnknownDirective, asking text line) ≡ unasked fault = cc in
    let none : Some line.rest ≡ None = ap (λ (f : PlacedFault). f.1.asks) same in
    cc

shown_no_end : (text : ℕ) (given : Given) → shown text given ≡ Err Finished → ⊥
shown_no_end text given.Nothing e = cc
shown_no_end text (given.Item token) e = cc
shown_no_end text (given.Include line) e = cc

pub shown_not_ends : (text : ℕ) (last : Option OpenBlock) (given : Given) (old new : Source) → Ends last old (shown text given) new → ⊥
shown_not_ends text (Some block) given old new h = shown_no_fault text old.text given _ h.0
shown_not_ends text None given old new h = shown_no_end text given h.0

-- after some items and some more
both_after : (old mid : SourceLexed) (n more total : ℕ) → total ≡ n + more → mid.rest ≡ drop n old.rest
    → (rules : Rules) (text : ℕ) (earlier : Earlier) (around : List SuspendedText) (definitions : List Defined) (blocks : List OpenBlock) (line_offset : ℤ) (has_text has_directive dead : Bool) (contents : ℕ) (note : Note)
    (still_open : List OpenBlock) (new : Source) → IsAfter more note still_open
    (source_of mid rules text earlier around definitions blocks line_offset has_text has_directive dead contents) new
    → IsAfter total note still_open (source_of old rules text earlier around definitions blocks line_offset has_text has_directive dead contents) new
both_after old mid n more total sum taken rules text earlier around definitions blocks line_offset has_text has_directive dead contents note still_open new b = record {
  rules = b.rules;
  text = b.text;
  earlier = b.earlier;
  around = b.around;
  rest = b.rest ∙ ap (drop more) taken ∙ drop-drop more n old.rest ∙ ap (λ k. drop k old.rest) (sym sum);
  blocks = b.blocks;
  line_offset = b.line_offset;
  spent = b.spent;
  has_text = b.has_text;
  has_directive = b.has_directive;
  dead_for_good = b.dead_for_good;
  contents = b.contents;
}

-- what an effect means where some items were taken before
module _ (rules : Rules) (text : ℕ) (earlier : Earlier) (around : List SuspendedText) (definitions : List Defined) (blocks : List OpenBlock)
    (line_offset : ℤ) (has_text has_directive dead : Bool) (contents : ℕ) (old mid : SourceLexed) (n more total : ℕ) (sum : total ≡ n + more)
    (taken : mid.rest ≡ drop n old.rest) where
  module _ (note : Note) (change : BlockChange) where
    after_both : (still_open : List OpenBlock) (new : Source)
        → IsAfter more note still_open (source_of mid rules text earlier around definitions blocks line_offset has_text has_directive dead contents) new
        → IsAfter total note still_open (source_of old rules text earlier around definitions blocks line_offset has_text has_directive dead contents) new
    after_both still_open new b = both_after old mid n more total sum taken rules text earlier around definitions blocks line_offset has_text has_directive dead contents note still_open new b

    module _ (given : Given) (new : Source) where
      defines_after : (named : Named) (before : Option Definition)
          → DefinesOver named before more note (source_of mid rules text earlier around definitions blocks line_offset has_text has_directive dead contents) (shown text given) new
          → DefinesOver named before total note (source_of old rules text earlier around definitions blocks line_offset has_text has_directive dead contents) (shown text given) new
      defines_after named None h = (h.0, after_both _ new h.1, h.2)
      defines_after named (Some before) (inl h) = inl (h.0, h.1, after_both _ new h.2, h.3)
      defines_after named (Some before) (inr h) = absurd (shown_no_fault text text given _ h.1)

      decides_after : (word : Location) (tokens : List Token) (after : Bool → List OpenBlock)
          → Decides word tokens after more note (source_of mid rules text earlier around definitions blocks line_offset has_text has_directive dead contents) (shown text given) new
          → Decides word tokens after total note (source_of old rules text earlier around definitions blocks line_offset has_text has_directive dead contents) (shown text given) new
      decides_after word tokens after (holds value condition h) = holds value condition (h.0, after_both _ new h.1, h.2)
      decides_after word tokens after (faulty fault condition failed left) = absurd (shown_no_unasked text given fault failed)

      renumbers_after : (word : Location) (tokens : List Token)
          → Renumbers word tokens more note (source_of mid rules text earlier around definitions blocks line_offset has_text has_directive dead contents) (shown text given) new
          → Renumbers word tokens total note (source_of old rules text earlier around definitions blocks line_offset has_text has_directive dead contents) (shown text given) new
      renumbers_after word tokens (numbers m number h) =
          numbers m number (
            h.0,
            both_after old mid n more total sum taken rules text earlier around definitions blocks
                (pos m -ℤ pos (numbered_line rules word.line)) has_text has_directive dead contents note blocks new h.1,
            h.2,
          )
      renumbers_after word tokens (unnumbered fault first number found failed left) = absurd (shown_no_unasked text given fault failed)

      pub effect_after : (effect : Effect) → HasEffect effect more note change (source_of mid rules text earlier around definitions blocks line_offset has_text has_directive dead contents)
          (shown text given) new → HasEffect effect total note change (source_of old rules text earlier around definitions blocks line_offset has_text has_directive dead contents) (shown text given) new
      effect_after (gives token) h = (h.0, after_both _ new h.1, h.2)
      effect_after (gives_item item word) h = (h.0, after_both _ new h.1, h.2)
      effect_after (asks line) h = (h.0, after_both _ new h.1, h.2)
      effect_after (fails fault) h = absurd (shown_no_fault text text given fault h.0)
      effect_after ends h = absurd (shown_not_ends text (last_block blocks) given _ new h)
      effect_after passes h = (h.0, after_both _ new h.1, h.2)
      effect_after (defines named) h = defines_after (defined_in text named) (meaning_of definitions named.name) h
      effect_after (undefines name) h = (h.0, after_both _ new h.1, h.2)
      effect_after (tests asked name) h = (h.0, after_both _ new h.1, h.2)
      effect_after (decides word tokens) h = decides_after word tokens _ h
      effect_after (renumbers word tokens) h = renumbers_after word tokens h

-- a fault after some items, and after some before them
module _ (rules : Rules) (text : ℕ) (earlier : Earlier) (around : List SuspendedText) (definitions : List Defined) (blocks : List OpenBlock)
    (has_text has_directive dead : Bool) (contents : ℕ) (old mid : SourceLexed) where
  pub left_after : (line_offset : ℤ) (more total : ℕ) (left : LineLeft) (new : Source) → length mid.rest ≤ length old.rest
      → drop more mid.rest ≡ drop total old.rest → GoesFurther old mid
      → HasLeft more left (source_of mid rules text earlier around definitions blocks line_offset has_text has_directive dead contents) new
      → HasLeft total left (source_of old rules text earlier around definitions blocks line_offset has_text has_directive dead contents) new
  left_after line_offset more total left new few same went h = record {
    rules = h.rules;
    text = h.text;
    earlier = h.earlier;
    around = h.around;
    contents = h.contents;
    has_text = h.has_text;
    rest = h.rest ∙ same;
    further = further_then old.over mid.over new.over old.rest mid.rest new.rest went h.further;
    fewer = omega (arith, h.fewer, few);
    blocks = h.blocks;
    definitions = h.definitions;
    line_offset = h.line_offset;
    has_directive = h.has_directive;
    dead_for_good = h.dead_for_good;
    spent = h.spent;
  }

  -- an effect has the same fault there
  module _ (line_offset : ℤ) (fault : PlacedFault) (P Q : Source → Type 0)
      (goes : (offset : ℤ) → P (source_of mid rules text earlier around definitions blocks offset has_text has_directive dead contents)
      → Q (source_of old rules text earlier around definitions blocks offset has_text has_directive dead contents)) where
    pub fails_after : (effect : Effect)
        → FailsWith effect (source_of mid rules text earlier around definitions blocks line_offset has_text has_directive dead contents) fault P
        → FailsWith effect (source_of old rules text earlier around definitions blocks line_offset has_text has_directive dead contents) fault Q
    fails_after (gives token) h = absurd h
    fails_after (gives_item item word) h = absurd h
    fails_after (asks line) h = absurd h
    fails_after (fails wanted) h = (h.0, goes line_offset h.1)
    fails_after ends h = absurd h
    fails_after passes h = absurd h
    fails_after (defines named) h = (h.0, goes line_offset h.1)
    fails_after (undefines name) h = absurd h
    fails_after (tests asked name) h = absurd h
    fails_after (decides word tokens) (found, condition, is, p) = (found, condition, is, goes line_offset p)
    fails_after (renumbers word tokens) (found, None, number, first, is, p) = (found, None, number, first, is, goes line_offset p)
    fails_after (renumbers word tokens) (found, Some n, number, first, is, p) =
        (found, Some n, number, first, is, goes (pos n -ℤ pos (numbered_line rules word.line)) p)

drop_none : (rest : List Seen) → drop 0 rest ≡ rest
drop_none [] = refl
drop_none (s ∷ rest) = refl

-- a `#define`, once its line is read
pub define_acts : (rules : Rules) (text : ℕ) (earlier : Earlier) (around : List SuspendedText) (definitions : List Defined) (blocks : List OpenBlock) (line_offset : ℤ)
    (has_text has_directive dead : Bool) (contents : ℕ) (old new : SourceLexed) (word : Location) {A : Type 0} (shows : A → Named)
    (line : A) (result : Result (Unit {0}) DirectiveHalt) (after : Source) → ReadsLine shows (defined_on rules word) old (Ok line) new
    → Acts (define_act (shows line)) (source_of new rules text earlier around definitions blocks line_offset has_text has_directive dead contents) result after
    → Acts (directive_act rules true (facts_among blocks) d.Define word old.rest)
    (source_of old rules text earlier around definitions blocks line_offset has_text has_directive dead contents) result after
define_acts rules text earlier around definitions blocks line_offset has_text has_directive dead contents old new word shows line result after read acts =
    record {
      acts = subst (λ (found : Result Named Fault). DoesAct (λ done. Err Continue) unnoted (record {
        move = line_move found defines old.rest;
        change = unchanged;
        taken = taken;
        left = nothing_left;
      }) before result after) (sym read.is) (does result acts.acts);
      holds = acts.holds;
      errors = reports_after rules.passes_dead_errors (unplaced_result result) (unreported_at old) (unreported_at new) (unreported_of after) read.errors acts.errors;
    }
  where
    before : Source
    before = source_of old rules text earlier around definitions blocks line_offset has_text has_directive dead contents

    between : Source
    between = source_of new rules text earlier around definitions blocks line_offset has_text has_directive dead contents

    effect : List Seen → Effect
    effect items = (line_move (defined_on rules word items) defines items).effect

    taken : ℕ
    taken = taken_after effect (take (line_length old.rest) old.rest)

    taken_whole : drop 0 new.rest ≡ drop taken old.rest
    taken_whole = drop_none new.rest ∙ read.takes.rest
        ∙ sym (whole_taken (defined_on rules word) effect (define_persists rules word)
        (λ items. line_effect (defined_on rules word items) defines items (λ named. refl)) refl old.rest (shows line) read.is)

    stops : (h : PlacedHalt) → Stops (define_act (shows line)) between h after
        → Stops (record { move = record { effect = defines (shows line); taken = line_length old.rest }; change = unchanged; taken = taken; left = nothing_left }) before h after
    stops (placed_halt.Fault fault) h =
        fails_after rules text earlier around definitions blocks has_text has_directive dead contents old new line_offset fault
        (λ from. HasLeft 0 nothing_left from after) (λ from. HasLeft taken nothing_left from after)
        (λ offset kept. left_after rules text earlier around definitions blocks has_text has_directive dead contents old new offset 0 taken nothing_left after
        (drop_fewer old.rest new.rest (line_length old.rest) read.takes.rest) taken_whole read.takes.further kept) (defines (shows line)) h
    stops placed_halt.OutOfMemory h = tt

    does : (result : Result (Unit {0}) DirectiveHalt) → DoesAct (λ done. Err Continue) unnoted (define_act (shows line)) between result after
        → DoesAct (λ done. Err Continue) unnoted (record { move = record { effect = defines (shows line); taken = line_length old.rest }; change = unchanged; taken = taken; left = nothing_left }) before result after
    does (Ok done) h = effect_after rules text earlier around definitions blocks line_offset has_text has_directive dead contents old new
        (line_length old.rest) 0 (line_length old.rest) (omega arith) read.takes.rest unnoted unchanged given.Nothing after (defines (shows line)) h
    does (Err halt) h = stops (placed_at text halt) h
