-- After the word of a directive it is remembered that a directive was read.
use Rattle.std.specs.Prelude.{if◌then◌else◌, Result, not}
use Rattle.std.proofs.Common.{◌≡◌, ◌∙◌, ◌⊎◌, ℕ, suc, ◌+◌, Bool, true, false, ◌&&◌, ◌||◌, List, [], ◌∷◌, Option, Some, None, Ok, Err, inl, inr, refl, sym, ap, subst, arith, take, drop}
use Rattle.std.specs.Prelude.{ℤ, pos, ◌-ℤ◌}
use Rattle.pp_lexer.specs.declared.rules.Rules.{Rules}
use Rattle.pp_lexer.specs.declared.token.Location.{Location}
use Rattle.pp_lexer.specs.declared.token.Token.{Token}
use Rattle.pp_model.specs.Acts.{defined_in}
use Rattle.pp_model.specs.Places.{Fault, placed}
use Rattle.pp_model.specs.Definitions.{Definition}
use Rattle.pp_model.specs.Lines.{ends_line, line_length, first_token}
use Rattle.pp_model.specs.Conversions.{is_newline, identifier_of}
use Rattle.pp_model.specs.Faults.{is_shown, shown_length}
use Rattle.pp_model.specs.Names.{Name}
use Rattle.pp_model.specs.Blocks.{part_of}
use Rattle.pp_model.specs.Sights.{directive_of}
use Rattle.pp_model.specs.declared.directive.Directive.{Directive}
use Rattle.pp_model.specs.declared.directive.Directive.TheVariants as d
use Rattle.pp_lexer.specs.Lexed.{Seen}
use Rattle.pp_lexer.specs.declared.lexer.item.Token.{Token as LexerToken}
use Rattle.pp_lexer.specs.declared.lexer.item.TokenValue.{TokenValue as LexerTokenValue}
use Rattle.pp_lexer.specs.declared.lexer.item.TokenValue.TheVariants.{Ident}
use Rattle.pp_model.specs.declared.definition.Named.{Named}
use Rattle.pp_model.specs.SourceReader.{Earlier}
use Rattle.pp_macros.specs.inner.Defined.{Defined, meaning_of}
use Rattle.pp_macros.specs.inner.OpenBlocks.{last_block, facts_among, BlockChange, block_change, block_change_at}
use Rattle.pp_macros.specs.declared.blocks.OpenBlock.{OpenBlock}
use Rattle.pp_macros.specs.inner.Source.{SuspendedText, Source, IsAfter, DefinesOver, HasEffect, Makes, Decides, holds, faulty, Renumbers, numbers, unnumbered}
use Rattle.pp_macros.specs.inner.LineReading.{HasTaken}
use Rattle.pp_macros.specs.inner.SourceLexed.{SourceLexed, unreported_at}
use Rattle.pp_macros.specs.inner.Unreported.{IsMet}
use Rattle.pp_directives.specs.inner.SourceActs.{taken_after, unnoted_left, HasLeft, FailsWith, Stops, ActsAs, ActsNoted, directive_act, is_item, word_note, name_move, word_move, word_effect, word_act}
use Rattle.pp_macros.specs.inner.Faults.{LineLeft, nothing_left, line_left, left_at}
use Rattle.pp_model.specs.inner.Sights.{directive_sight}
use Rattle.pp_macros.specs.declared.halt.PlacedHalt.{PlacedHalt}
use Rattle.pp_macros.specs.declared.halt.PlacedHalt.TheVariants as placed_halt
use Rattle.pp_directives.proofs.FaultTakenLemmas.{same_length, first_length}
use Rattle.pp_directives.proofs.LineReadingLemmas.{drop_fewer}
use Rattle.pp_directives.proofs.ShownLemmas.{line_going_on, one_past}
use Rattle.pp_directives.proofs.FurtherLemmas.{GoesFurther, further_then}
use Rattle.pp_directives.proofs.UnreportedLemmas.{met_none}
use Rattle.pp_model.specs.Moves.{Effect, gives, gives_item, asks, fails, ends, passes, defines, undefines, tests, decides, renumbers, Move, passing, failing, BlockFacts, directive_move}
use Rattle.pp_model.specs.inner.Moves.{taking_more}
use Rattle.pp_model.specs.Reads.{numbered_line}
use Rattle.pp_macros.specs.inner.SourceMoves.{Note, unnoted, directive_line}
use Rattle.pp_directives.proofs.SourceActsLemmas.{source_of, shown_no_fault, shown_no_unasked, shown_not_ends, effect_after, fails_after}
use Rattle.pp_directives.specs.inner.DirectiveHalts.{of_line, shown}
use Rattle.pp_directives.specs.inner.ReadingLines.{ReadsNext}
use Rattle.pp_macros.specs.declared.halt.Halt.{Halt}
use Rattle.pp_macros.specs.declared.halt.Halt.TheVariants as halt
use Rattle.pp_macros.specs.Item.{PlacedStep}
use Rattle.pp_directives.specs.declared.given.Given.{Given}

abbrev pub remembering : Source → Source
remembering source = record source { has_directive = true }

noted_after : (taken : ℕ) (old after : Source) (still_open : List OpenBlock) → IsAfter taken unnoted still_open old after
    → IsAfter taken directive_line still_open old (remembering after)
noted_after taken old after still_open b = record {
  rules = b.rules;
  text = b.text;
  earlier = b.earlier;
  around = b.around;
  rest = b.rest;
  blocks = b.blocks;
  line_offset = b.line_offset;
  spent = b.spent;
  has_text = b.has_text;
  has_directive = refl;
  dead_for_good = b.dead_for_good;
  contents = b.contents;
}

module _ (taken : ℕ) (old after : Source) (text : ℕ) (given : Given) where
  after_noted : (still_open : List OpenBlock) → IsAfter taken unnoted still_open old after → IsAfter taken directive_line still_open old (remembering after)
  after_noted still_open b = noted_after taken old after still_open b

  defines_noted : (named : Named) (before : Option Definition) → DefinesOver named before taken unnoted old (shown text given) after
      → DefinesOver named before taken directive_line old (shown text given) (remembering after)
  defines_noted named None h = (h.0, after_noted _ h.1, h.2)
  defines_noted named (Some before) (inl h) = inl (h.0, h.1, after_noted _ h.2, h.3)
  defines_noted named (Some before) (inr h) = absurd (shown_no_fault text old.text given _ h.1)

  decides_noted : (word : Location) (tokens : List Token) (blocks : Bool → List OpenBlock)
      → Decides word tokens blocks taken unnoted old (shown text given) after
      → Decides word tokens blocks taken directive_line old (shown text given) (remembering after)
  decides_noted word tokens blocks (holds value condition h) = holds value condition (h.0, after_noted _ h.1, h.2)
  decides_noted word tokens blocks (faulty fault condition failed left) = absurd (shown_no_unasked text given fault failed)

  renumbers_noted : (word : Location) (tokens : List Token) → Renumbers word tokens taken unnoted old (shown text given) after
      → Renumbers word tokens taken directive_line old (shown text given) (remembering after)
  renumbers_noted word tokens (numbers n number h) = numbers n number (
    h.0,
    noted_after taken (record old { line_offset = pos n -ℤ pos (numbered_line old.rules word.line) }) after old.blocks h.1,
    h.2,
  )
  renumbers_noted word tokens (unnumbered fault first number found failed left) = absurd (shown_no_unasked text given fault failed)

  -- what a directive does is the same then
  pub effect_noted : (effect : Effect) (change : BlockChange) → HasEffect effect taken unnoted change old (shown text given) after
      → HasEffect effect taken directive_line change old (shown text given) (remembering after)
  effect_noted (gives token) change h = (h.0, after_noted _ h.1, h.2)
  effect_noted (gives_item item word) change h = (h.0, after_noted _ h.1, h.2)
  effect_noted (asks line) change h = (h.0, after_noted _ h.1, h.2)
  effect_noted (fails fault) change h = absurd (shown_no_fault text old.text given fault h.0)
  effect_noted ends change h = absurd (shown_not_ends text (last_block old.blocks) given old after h)
  effect_noted passes change h = (h.0, after_noted _ h.1, h.2)
  effect_noted (defines named) change h = defines_noted (defined_in old.text named) (meaning_of old.definitions named.name) h
  effect_noted (undefines name) change h = (h.0, after_noted _ h.1, h.2)
  effect_noted (tests asked name) change h = (h.0, after_noted _ h.1, h.2)
  effect_noted (decides word tokens) change h = decides_noted word tokens _ h
  effect_noted (renumbers word tokens) change h = renumbers_noted word tokens h

-- what a directive does after its number sign, where the word was read
pub word_read : (rules : Rules) (text : ℕ) (earlier : Earlier) (around : List SuspendedText) (definitions : List Defined) (blocks : List OpenBlock) (line_offset : ℤ) (has_text has_directive dead : Bool) (contents : ℕ) (old mid : SourceLexed)
    → mid.rest ≡ drop 1 old.rest → (change : BlockChange) (move : Move) (given : Given) (after : Source)
    → Makes unnoted change move (source_of mid rules text earlier around definitions blocks line_offset has_text has_directive dead contents) (shown text given) after
    → Makes directive_line change (taking_more 1 move) (source_of old rules text earlier around definitions blocks line_offset has_text has_directive dead contents)
    (shown text given) (remembering after)
word_read rules text earlier around definitions blocks line_offset has_text has_directive dead contents old mid taken change move given after h =
    effect_noted (1 + move.taken) (source_of old rules text earlier around definitions blocks line_offset has_text has_directive dead contents) after text given move.effect change
    (effect_after rules text earlier around definitions blocks line_offset has_text has_directive dead contents old mid 1 move.taken (1 + move.taken) refl taken unnoted change given after move.effect h)

-- a directive item is a directive all the same, and so is an `#elif` outside of all blocks
pub item_left : (rules : Rules) (block : Option BlockFacts) (directive : Directive) (word : Location) (after : List Seen)
    → (line_left rules true block directive word after).is_directive ≡ (is_item directive || (line_left rules true block directive word after).is_dead)
item_left rules block d.Define word after = refl
item_left rules block d.Undef word after = refl
item_left rules block d.If word after = refl
item_left rules block d.Ifdef word after = refl
item_left rules block d.Ifndef word after = refl
item_left rules None d.Elif word after = refl
item_left rules (Some found) d.Elif word after = refl
item_left rules block d.Else word after = refl
item_left rules None d.Endif word after = refl
item_left rules (Some found) d.Endif word after = refl
item_left rules block d.Error word after = refl
item_left rules block d.Include word after = refl
item_left rules block d.Line word after = refl
item_left rules block d.Version word after = refl
item_left rules block d.Extension word after = refl
item_left rules block d.Pragma word after = refl
item_left rules block d.Unknown word after = refl

pub dead_left : (rules : Rules) (block : Option BlockFacts) (directive : Directive) (word : Location) (after : List Seen)
    → (line_left rules false block directive word after).is_directive ≡ (false || (line_left rules false block directive word after).is_dead)
dead_left rules block d.Define word after = refl
dead_left rules block d.Undef word after = refl
dead_left rules block d.If word after = refl
dead_left rules block d.Ifdef word after = refl
dead_left rules block d.Ifndef word after = refl
dead_left rules None d.Elif word after = refl
dead_left rules (Some found) d.Elif word after = refl
dead_left rules block d.Else word after = refl
dead_left rules None d.Endif word after = refl
dead_left rules (Some found) d.Endif word after = refl
dead_left rules block d.Error word after = refl
dead_left rules block d.Include word after = refl
dead_left rules block d.Line word after = refl
dead_left rules block d.Version word after = refl
dead_left rules block d.Extension word after = refl
dead_left rules block d.Pragma word after = refl
dead_left rules block d.Unknown word after = refl

either_order : (x y z : Bool) → ((x || z) || y) ≡ ((y || x) || z)
either_order true true z = refl
either_order true false z = refl
either_order false true true = refl
either_order false true false = refl
either_order false false true = refl
either_order false false false = refl

-- a directive with a fault, after its number sign, where the word was read
module _ (rules : Rules) (text : ℕ) (earlier : Earlier) (around : List SuspendedText) (definitions : List Defined) (blocks : List OpenBlock) (has_text has_directive dead : Bool) (contents : ℕ)
    (old mid : SourceLexed) (took : mid.rest ≡ drop 1 old.rest) (went : GoesFurther old mid) (left : LineLeft) (item noted : Bool) (after : Source)
    (counts : left.is_directive ≡ (item || left.is_dead)) (is : noted ≡ (after.has_directive || item)) where
  left_noted : (line_offset : ℤ) (more total : ℕ) → drop more mid.rest ≡ drop total old.rest
      → HasLeft more (unnoted_left left) (source_of mid rules text earlier around definitions blocks line_offset has_text has_directive dead contents) after
      → HasLeft total left (source_of old rules text earlier around definitions blocks line_offset has_text has_directive dead contents) (record after { has_directive = noted })
  left_noted line_offset more total same h = record {
    rules = h.rules;
    text = h.text;
    earlier = h.earlier;
    around = h.around;
    contents = h.contents;
    has_text = h.has_text;
    rest = h.rest ∙ same;
    further = further_then old.over mid.over after.over old.rest mid.rest after.rest went h.further;
    fewer = omega (arith, h.fewer, drop_fewer old.rest mid.rest 1 took);
    blocks = h.blocks;
    definitions = h.definitions;
    line_offset = h.line_offset;
    has_directive = is ∙ ap (λ (b : Bool). b || item) h.has_directive ∙ either_order left.is_dead item has_directive ∙ ap (λ (b : Bool). b || has_directive) (sym counts);
    dead_for_good = h.dead_for_good;
    spent = h.spent;
  }

  pub word_fails : (line_offset : ℤ) (effect : Effect) (some more all total : ℕ) (change changed : BlockChange) → drop more mid.rest ≡ drop total old.rest → (h : PlacedHalt)
      → Stops (record { move = record { effect = effect; taken = some }; change = change; taken = more; left = unnoted_left left })
      (source_of mid rules text earlier around definitions blocks line_offset has_text has_directive dead contents) h after
      → Stops (record { move = record { effect = effect; taken = all }; change = changed; taken = total; left = left })
      (source_of old rules text earlier around definitions blocks line_offset has_text has_directive dead contents) h (record after { has_directive = noted })
  word_fails line_offset effect some more all total change changed same (placed_halt.Fault fault) h =
      fails_after rules text earlier around definitions blocks has_text has_directive dead contents old mid line_offset fault
      (λ from. HasLeft more (unnoted_left left) from after) (λ from. HasLeft total left from (record after { has_directive = noted }))
      (λ offset kept. left_noted offset more total same kept) effect h
  word_fails line_offset effect some more all total change changed same placed_halt.OutOfMemory h = tt

-- the items that a fault takes after a number sign: the word, and those that a fault of its line takes
pub named_taken : (rules : Rules) (live : Bool) (block : Option BlockFacts) (hash : Location) (rest after : List Seen) (token : LexerToken) (name : Name)
    → first_token hash rest ≡ Ok token → token.value ≡ Ident name → after ≡ drop 1 rest
    → drop (taken_after (λ items. (directive_move rules live block (directive_of name) token.location items).effect) (take (line_length after) after)) after
    ≡ drop (shown_length (word_effect rules live block hash) (take (line_length rest) rest)) rest
named_taken rules live block hash [] after token name e v d = cc
named_taken rules live block hash (s ∷ rest) after token name e v d = rw d (sym (
    ap (λ (items : List Seen). drop (shown_length (word_effect rules live block hash) items) (s ∷ rest)) (line_going_on s rest (ap ends_line e ∙ ap is_newline v))
    ∙ ap (λ (n : ℕ). drop n (s ∷ rest)) (counted (take (line_length rest) rest))))
  where
    line : List Seen → Effect
    line items = (directive_move rules live block (directive_of name) token.location items).effect

    same : (items : List Seen) → word_effect rules live block hash (s ∷ items) ≡ line items
    same items = ap (λ (found : Result LexerToken Fault). (word_move rules live block found items).effect) e
        ∙ ap (λ (value : LexerTokenValue). (name_move rules live block token (identifier_of value) items).effect) v

    either : (b : Bool) (n : ℕ) → (if b then 1 else 1 + n) ≡ suc (if b then 0 else n)
    either true n = refl
    either false n = one_past n

    counted : (items : List Seen) → shown_length (word_effect rules live block hash) (s ∷ items) ≡ suc (taken_after line items)
    counted items =
        ap (λ (b : Bool). if b then 1 else 1 + shown_length (λ more. word_effect rules live block hash (s ∷ more)) items) (ap is_shown (same []))
        ∙ ap (λ (n : ℕ). if is_shown (line []) then 1 else 1 + n) (same_length (λ more. word_effect rules live block hash (s ∷ more)) line (λ more. ap is_shown (same more)) items)
        ∙ either (is_shown (line [])) (shown_length line items)

-- a fault of what is in the place of the word takes that
pub bare_taken : (rules : Rules) (live : Bool) (block : Option BlockFacts) (hash : Location) (rest after : List Seen) (fault : Fault)
    → ((s : Seen) (items : List Seen) → rest ≡ s ∷ items → word_effect rules live block hash (s ∷ []) ≡ fails fault)
    → after ≡ drop 1 rest → (is_shown (fails fault) ≡ true) ⊎ (after ≡ [])
    → after ≡ drop (shown_length (word_effect rules live block hash) (take (line_length rest) rest)) rest
bare_taken rules live block hash [] after fault e d h = d
bare_taken rules live block hash (s ∷ rest) after fault e d h =
    d ∙ ap (λ (n : ℕ). drop n (s ∷ rest)) (sym (first_length (word_effect rules live block hash) s rest (by h)))
  where
    by : (is_shown (fails fault) ≡ true) ⊎ (after ≡ []) → (is_shown (word_effect rules live block hash (s ∷ [])) ≡ true) ⊎ (rest ≡ [])
    by (inl shown) = inl (ap is_shown (e s rest refl) ∙ shown)
    by (inr none) = inr (sym d ∙ none)

-- what is in the place of the word has a fault
module _ (rules : Rules) (text : ℕ) (earlier : Earlier) (around : List SuspendedText) (definitions : List Defined) (blocks : List OpenBlock) (line_offset : ℤ) (has_text has_directive dead : Bool) (contents : ℕ)
    (old mid : SourceLexed) (live : Bool) (hash : Location) (fault : Fault) (took : HasTaken 1 old mid) (shown_or_last : (is_shown (fails fault) ≡ true) ⊎ (mid.rest ≡ [])) where
  bare_stops : (found : Result LexerToken Fault) → first_token hash old.rest ≡ found
      → ((after : List Seen) → (word_move rules live (facts_among blocks) found after).effect ≡ fails fault)
      → left_at rules live (facts_among blocks) (directive_sight found) (drop 1 old.rest) ≡ nothing_left
      → Stops (word_act rules live (facts_among blocks) hash old.rest)
      (source_of old rules text earlier around definitions blocks line_offset has_text has_directive dead contents) (placed_halt.Fault (placed text fault))
      (source_of mid rules text earlier around definitions blocks line_offset has_text has_directive dead contents)
  bare_stops found e refuses none =
      let taken = shown_length (word_effect rules live (facts_among blocks) hash) (take (line_length old.rest) old.rest) in
      let before = source_of old rules text earlier around definitions blocks line_offset has_text has_directive dead contents in
      let behind = source_of mid rules text earlier around definitions blocks line_offset has_text has_directive dead contents in
      let effect : (word_move rules live (facts_among blocks) (first_token hash old.rest) (drop 1 old.rest)).effect ≡ fails fault =
      ap (λ (r : Result LexerToken Fault). (word_move rules live (facts_among blocks) r (drop 1 old.rest)).effect) e ∙ refuses (drop 1 old.rest) in
      let left : left_at rules live (facts_among blocks) (directive_sight (first_token hash old.rest)) (drop 1 old.rest) ≡ nothing_left =
      ap (λ (r : Result LexerToken Fault). left_at rules live (facts_among blocks) (directive_sight r) (drop 1 old.rest)) e ∙ none in
      subst (λ (l : LineLeft). FailsWith (word_move rules live (facts_among blocks) (first_token hash old.rest) (drop 1 old.rest)).effect before (placed text fault) (λ from. HasLeft taken l from behind)) (sym left)
      (subst (λ (f : Effect). FailsWith f before (placed text fault) (λ from. HasLeft taken nothing_left from behind)) (sym effect) (
        refl,
        record {
          rules = refl;
          text = refl;
          earlier = refl;
          around = refl;
          contents = refl;
          has_text = refl;
          rest = bare_taken rules live (facts_among blocks) hash old.rest mid.rest fault
              (λ s items is. ap (λ (r : Result LexerToken Fault). (word_move rules live (facts_among blocks) r []).effect) (sym (ap (first_token hash) is) ∙ e) ∙ refuses [])
              took.rest shown_or_last;
          further = took.further;
          fewer = omega (arith, drop_fewer old.rest mid.rest 1 took.rest);
          blocks = refl;
          definitions = refl;
          line_offset = refl;
          has_directive = refl;
          dead_for_good = refl;
          spent = took.spent;
        },
      ))

  -- an error of the lexer that isn't passed
  pub error_stops : first_token hash old.rest ≡ Err fault → (not live && rules.passes_dead_errors) ≡ false
      → Stops (word_act rules live (facts_among blocks) hash old.rest)
      (source_of old rules text earlier around definitions blocks line_offset has_text has_directive dead contents) (placed_halt.Fault (placed text fault))
      (source_of mid rules text earlier around definitions blocks line_offset has_text has_directive dead contents)
  error_stops e given = bare_stops (Err fault) e (λ after. ap (λ (b : Bool). (if b then passing 1 else failing fault).effect) given) refl

-- the items that are left after it
pub error_rest : (rules : Rules) (live : Bool) (block : Option BlockFacts) (hash : Location) (rest after : List Seen) (fault : Fault)
    → first_token hash rest ≡ Err fault → (not live && rules.passes_dead_errors) ≡ false → after ≡ drop 1 rest → (is_shown (fails fault) ≡ true) ⊎ (after ≡ [])
    → after ≡ drop (shown_length (word_effect rules live block hash) (take (line_length rest) rest)) rest
error_rest rules live block hash rest after fault e given d h =
    bare_taken rules live block hash rest after fault
    (λ s items is. ap (λ (r : Result LexerToken Fault). (word_move rules live block r []).effect) (sym (ap (first_token hash) is) ∙ e)
    ∙ ap (λ (b : Bool). (if b then passing 1 else failing fault).effect) given) d h

-- so it is noted
pub error_noted : {A : Type 0} (shows : A → PlacedStep Token) (note : Note) (rules : Rules) (text : ℕ) (earlier : Earlier) (around : List SuspendedText) (definitions : List Defined) (blocks : List OpenBlock)
    (line_offset : ℤ) (has_text has_directive dead : Bool) (contents : ℕ) (old new : SourceLexed) (live : Bool) (hash : Location) (h : Halt)
    → ((fault : Fault) → h ≡ halt.Fault fault → (not live && rules.passes_dead_errors) ≡ false)
    → ReadsNext {A = LexerToken} (λ t. t) (first_token hash) old (Err h) new
    → ActsAs shows note (word_act rules live (facts_among blocks) hash old.rest)
    (source_of old rules text earlier around definitions blocks line_offset has_text has_directive dead contents) (Err (of_line h))
    (source_of new rules text earlier around definitions blocks line_offset has_text has_directive dead contents)
error_noted shows note rules text earlier around definitions blocks line_offset has_text has_directive dead contents old new live hash (halt.Fault fault) given read = record {
  acts = error_stops rules text earlier around definitions blocks line_offset has_text has_directive dead contents old new live hash fault read.takes read.fault read.is (given fault refl);
  holds = tt;
  errors = read.errors;
}
error_noted shows note rules text earlier around definitions blocks line_offset has_text has_directive dead contents old new live hash halt.OutOfMemory given read =
    record { acts = tt; holds = tt; errors = tt }

-- a directive with a fault, after its number sign
pub named_stops : (rules : Rules) (text : ℕ) (earlier : Earlier) (around : List SuspendedText) (definitions : List Defined) (blocks : List OpenBlock)
    (line_offset : ℤ) (has_text has_directive dead : Bool) (contents : ℕ) (old mid : SourceLexed) (live : Bool) (hash : Location) (token : LexerToken) (name : Name) (item noted : Bool) (after : Source)
    → mid.rest ≡ drop 1 old.rest → GoesFurther old mid → first_token hash old.rest ≡ Ok token → token.value ≡ Ident name
    → (line_left rules live (facts_among blocks) (directive_of name) token.location mid.rest).is_directive
    ≡ (item || (line_left rules live (facts_among blocks) (directive_of name) token.location mid.rest).is_dead)
    → noted ≡ (after.has_directive || item) → (h : PlacedHalt)
    → Stops (directive_act rules live (facts_among blocks) (directive_of name) token.location mid.rest)
    (source_of mid rules text earlier around definitions blocks line_offset has_text has_directive dead contents) h after
    → Stops (word_act rules live (facts_among blocks) hash old.rest)
    (source_of old rules text earlier around definitions blocks line_offset has_text has_directive dead contents) h (record after { has_directive = noted })
named_stops rules text earlier around definitions blocks line_offset has_text has_directive dead contents old mid live hash token name item noted after took went e v counts is h stops =
    let block = facts_among blocks in
    let move = directive_move rules live block (directive_of name) token.location mid.rest in
    let left = line_left rules live block (directive_of name) token.location mid.rest in
    let total = shown_length (word_effect rules live block hash) (take (line_length old.rest) old.rest) in
    let change = block_change_at (directive_sight (first_token hash old.rest)) in
    let before = source_of old rules text earlier around definitions blocks line_offset has_text has_directive dead contents in
    let first : (◌≡◌ {A = Result LexerToken Fault} (first_token hash old.rest) (Ok (record token { value = Ident name }))) = e ∙ ap (λ (value : LexerTokenValue). Ok (record token { value = value })) v in
    let moves : word_move rules live block (first_token hash old.rest) (drop 1 old.rest) ≡ taking_more 1 move =
    ap (λ (found : Result LexerToken Fault). word_move rules live block found (drop 1 old.rest)) first
    ∙ ap (λ (rest : List Seen). taking_more 1 (directive_move rules live block (directive_of name) token.location rest)) (sym took) in
    let stays : left_at rules live block (directive_sight (first_token hash old.rest)) (drop 1 old.rest) ≡ left =
    ap (λ (found : Result LexerToken Fault). left_at rules live block (directive_sight found) (drop 1 old.rest)) first
    ∙ ap (line_left rules live block (directive_of name) token.location) (sym took) in
    subst (λ (m : Move). Stops (record { move = m; change = change; taken = total; left = left_at rules live block (directive_sight (first_token hash old.rest)) (drop 1 old.rest) }) before h (record after { has_directive = noted })) (sym moves)
    (subst (λ (l : LineLeft). Stops (record { move = taking_more 1 move; change = change; taken = total; left = l }) before h (record after { has_directive = noted })) (sym stays)
    (word_fails rules text earlier around definitions blocks has_text has_directive dead contents old mid took went left item noted after counts is line_offset move.effect move.taken _ (1 + move.taken) total (block_change (part_of (directive_of name)) token.location) change
    (named_taken rules live block hash old.rest mid.rest token name e v took) h stops))

pub or_false : (b : Bool) → b ≡ (b || false)
or_false true = refl
or_false false = refl

-- the same where an error of the lexer was read in the place of the word, and is passed
pub error_passed : (rules : Rules) (text : ℕ) (earlier : Earlier) (around : List SuspendedText) (definitions : List Defined) (blocks : List OpenBlock) (line_offset : ℤ) (has_text has_directive dead : Bool) (contents : ℕ)
    (old mid new : SourceLexed) (hash : Location) (fault : Fault) → first_token hash old.rest ≡ Err fault → HasTaken 1 old mid
    → IsMet fault (unreported_at old) (unreported_at mid) → new ≡ record mid { error_place = None } → rules.passes_dead_errors ≡ true
    → ActsNoted (word_note false (first_token hash old.rest)) (word_act rules false (facts_among blocks) hash old.rest)
    (source_of old rules text earlier around definitions blocks line_offset has_text has_directive dead contents) (Ok tt)
    (source_of new rules text earlier around definitions blocks line_offset has_text has_directive dead contents)
error_passed rules text earlier around definitions blocks line_offset has_text has_directive dead contents old mid new hash fault is took met same passed =
    rw (is, passed, same) (record {
      acts = (
        refl,
        record {
          rules = refl;
          text = refl;
          earlier = refl;
          around = refl;
          rest = took.rest;
          blocks = refl;
          line_offset = refl;
          spent = took.spent;
          has_text = refl;
          has_directive = refl;
          dead_for_good = refl;
          contents = refl;
        },
        refl,
      );
      holds = tt;
      errors = met_none fault (unreported_at old) (unreported_at mid) _ met refl;
    })

-- the second of two that both hold
pub and_second : (a b : Bool) → (a && b) ≡ true → b ≡ true
and_second true b e = e
and_second false b e = cc
