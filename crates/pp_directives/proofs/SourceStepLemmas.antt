-- One step of a source, from its first token.
use Rattle.std.proofs.Common.{◌≡◌, ◌⊎◌, ℕ, suc, ◌+◌, ◌<◌, ◌≤◌, Bool, true, false, not, ◌&&◌, ◌||◌, ◌≢◌, List, [], ◌∷◌, length, take, drop, Option, Some, None, Result, Ok, Err, inl, inr, refl, sym, ◌∙◌, ap, subst, arith}
use Rattle.std.specs.Prelude.{MatchBool, if◌then◌else◌, ℤ, pos, ◌-ℤ◌}
use Rattle.std.proofs.lemmas.List.{drop-drop}
use Rattle.pp_lexer.specs.Items.{Lexeme}
use Rattle.pp_lexer.specs.Lexed.{Seen}
use Rattle.pp_lexer.specs.declared.lexer.item.Token.{Token as LexerToken}
use Rattle.pp_lexer.specs.declared.lexer.item.TokenValue.{TokenValue as LexerTokenValue}
use Rattle.pp_lexer.specs.declared.lexer.item.TokenValue.TheVariants.{Hash, NewLine, Ident as LexerIdent, Integer as LexerInteger, Float as LexerFloat, Punct as LexerPunct}
use Rattle.pp_lexer.specs.declared.rules.Rules.{Rules}
use Rattle.pp_lexer.specs.declared.token.Location.{Location}
use Rattle.pp_lexer.specs.declared.token.Token.{Token}
use Rattle.pp_lexer.specs.declared.token.PreprocessorError.TheVariants.{UnexpectedEndOfInput}
use Rattle.pp_model.specs.Acts.{defined_in}
use Rattle.pp_model.specs.Definitions.{Definition}
use Rattle.pp_model.specs.declared.definition.Named.{Named}
use Rattle.pp_model.specs.declared.sight.Sight.{Sight}
use Rattle.pp_model.specs.Places.{Fault, PlacedFault}
use Rattle.pp_model.specs.Faults.{is_shown, shown_length}
use Rattle.pp_model.specs.Reads.{numbered_line}
use Rattle.pp_model.specs.Blocks.{part_of}
use Rattle.pp_model.specs.Conversions.{is_newline, identifier_of, refused_token}
use Rattle.pp_model.specs.Lines.{ends_line, line_length, first_token}
use Rattle.pp_model.specs.Names.{Name}
use Rattle.pp_model.specs.declared.sight.Sight.TheVariants as sight
use Rattle.pp_model.specs.Sights.{directive_of, named_directive, token_sight, sight_of, is_directive_hash}
use Rattle.pp_model.specs.inner.Sights.{directive_sight}
use Rattle.pp_model.specs.SourceReader.{Earlier}
use Rattle.pp_macros.specs.inner.Defined.{Defined, meaning_of}
use Rattle.pp_directives.specs.inner.DirectiveHalts.{placed_at, shown, step_at}
use Rattle.pp_directives.specs.declared.given.Given.{Given}
use Rattle.pp_directives.specs.declared.directive_halt.DirectiveHalt.{DirectiveHalt}
use Rattle.pp_macros.specs.Halting.{exit_of, placed_halt_of}
use Rattle.pp_macros.specs.Item.{PlacedStep}
use Rattle.pp_macros.specs.inner.LineReading.{IsFurther, HasTaken, as_next, next_token}
use Rattle.pp_macros.specs.inner.OpenBlocks.{facts_among, is_live_among, BlockChange, unchanged, block_change, block_change_at}
use Rattle.pp_macros.specs.declared.blocks.OpenBlock.{OpenBlock}
use Rattle.pp_macros.specs.inner.Source.{SuspendedText, Source, IsAfterFault, DefinesOver, faulty, unnumbered, Pauses, HasEffect, Makes, MakesMove, IsRefusedStep, StepsSource}
use Rattle.pp_macros.specs.inner.Faults.{takes_line, fault_taken, LineLeft, nothing_left, left_at, left_of, IsUndefined}
use Rattle.pp_macros.specs.declared.halt.Halt.{Halt}
use Rattle.pp_macros.specs.declared.halt.Halt.TheVariants as line_halt
use Rattle.pp_macros.specs.declared.step.PlacedExit.{PlacedExit}
use Rattle.pp_directives.specs.inner.TokenTaking.{TakesToken}
use Rattle.std.specs.List.{list_any}
use Rattle.pp_directives.specs.inner.SourceActs.{LineAct, HasLeft, RedefinesWith, FailsWith, Stops, DoesAct, StepsDirective, word_note, name_move, word_move, word_effect, word_act}
use Rattle.pp_macros.specs.inner.SourceLexed.{SourceLexed, EndKeepsPlaces}
use Rattle.pp_model.specs.Moves.{Effect, gives, gives_item, asks, fails, ends, passes, defines, undefines, tests, decides, renumbers, Move, failing, passing, directive_move, error_length, move_at, BlockFacts}
use Rattle.pp_model.specs.inner.Moves.{taking_more}
use Rattle.pp_macros.specs.inner.SourceMoves.{Note, unnoted, directive_line, note_at, move_of}
use Rattle.pp_macros.specs.declared.step.PlacedExit.TheVariants.{Error, Continue}
use Rattle.pp_macros.specs.declared.halt.PlacedHalt.{PlacedHalt}
use Rattle.pp_macros.specs.declared.halt.PlacedHalt.TheVariants as halt
use Rattle.pp_directives.proofs.FurtherLemmas.{over_first, over_last, shown_within}
use Rattle.pp_directives.proofs.SkippingLemmas.{taken_by, skipping, skips_move}
use Rattle.pp_directives.proofs.SourceActsLemmas.{source_of, shown_no_fault, effect_after}
use Rattle.pp_directives.proofs.FaultTakenLemmas.{same_length, first_length, taken_part}
use Rattle.pp_directives.proofs.ShownLemmas.{line_going_on, one_past}

match_false : (P Q : Type 0) (b : Bool) → b ≡ false → Q → MatchBool b P Q
match_false P Q true e q = cc
match_false P Q false e q = q

steps_unspent : (old : Source) (step : PlacedStep Token) (new : Source) → old.spent ≡ false → IsRefusedStep old step ⊎ MakesMove old step new
    → StepsSource old step new
steps_unspent old step new e h = match_false _ _ old.spent e h

-- the token that comes first is what is shown
token_shown : (rest : List Seen) (token : LexerToken) → next_token rest ≡ Ok (Some token) → sight_of rest ≡ token_sight token (drop 1 rest)
token_shown [] token e = cc
token_shown (s ∷ rest) token e = item_shown s.item s.had_comments rest token e
  where
    item_shown : (item : Lexeme) (had : Bool) (rest : List Seen) (token : LexerToken)
        → next_token (record { item = item; had_comments = had } ∷ rest) ≡ Ok (Some token)
        → sight_of (record { item = item; had_comments = had } ∷ rest) ≡ token_sight token rest
    item_shown (Err fault) had rest token e = cc
    item_shown (Ok other) had rest token e = let same : other ≡ token = cc in ap (λ t. token_sight t rest) same

hash_sight : (token : LexerToken) (rest : List Seen) → token.value ≡ Hash → token.start_of_line ≡ true
    → token_sight token rest ≡ directive_sight (first_token token.location rest)
hash_sight token rest v s = rw (v, s) refl

-- a fault after a number sign is one of the source
module _ (rules : Rules) (text : ℕ) (earlier : Earlier) (around : List SuspendedText) (definitions : List Defined) (blocks : List OpenBlock)
    (has_text has_directive dead : Bool) (contents : ℕ) (old mid : SourceLexed) (new : Source) (fewer : length mid.rest < length old.rest)
    (n : ℕ) (left : LineLeft)
    (taken : drop n mid.rest ≡ drop (fault_taken rules dead blocks old.rest) old.rest)
    (stays : left_of rules dead blocks old.rest ≡ left) where
  left_after_fault : (line_offset : ℤ) → HasLeft n left (source_of mid rules text earlier around definitions blocks line_offset has_text has_directive dead contents) new
      → IsAfterFault (source_of old rules text earlier around definitions blocks line_offset has_text has_directive dead contents) new
  left_after_fault line_offset h = record {
    rules = h.rules;
    text = h.text;
    earlier = h.earlier;
    around = h.around;
    contents = h.contents;
    has_text = h.has_text;
    rest = h.rest ∙ taken;
    fewer = omega (arith, h.fewer, fewer);
    blocks = h.blocks ∙ ap (λ (l : LineLeft). l.change None blocks) (sym stays);
    definitions = subst (λ (l : LineLeft). IsUndefined l.undefined definitions new.definitions) (sym stays) h.definitions;
    line_offset = h.line_offset;
    has_directive = h.has_directive ∙ ap (λ (l : LineLeft). l.is_directive || has_directive) (sym stays);
    dead_for_good = h.dead_for_good ∙ ap (λ (l : LineLeft). l.is_dead || dead) (sym stays);
    spent = h.spent;
  }

  module _ (line_offset : ℤ) (fault : PlacedFault) (taken_all : ℕ) (note : Note) (change : BlockChange) where
    abbrev Left : Source → Type 0
    Left from = HasLeft n left from new

    redefines : (named : Named) (before : Option Definition) → RedefinesWith text named before fault
        → Left (source_of mid rules text earlier around definitions blocks line_offset has_text has_directive dead contents)
        → DefinesOver named before taken_all note (source_of old rules text earlier around definitions blocks line_offset has_text has_directive dead contents) (Err (Error fault)) new
    redefines named None h left = absurd h
    redefines named (Some before) h left = inr (h.0, ap (λ f. Err (Error f)) h.1, left_after_fault line_offset left)

    pub fault_makes : (effect : Effect)
        → FailsWith effect (source_of mid rules text earlier around definitions blocks line_offset has_text has_directive dead contents) fault Left
        → HasEffect effect taken_all note change (source_of old rules text earlier around definitions blocks line_offset has_text has_directive dead contents) (Err (Error fault)) new
    fault_makes (gives token) h = absurd h
    fault_makes (gives_item item word) h = absurd h
    fault_makes (asks line) h = absurd h
    fault_makes (fails wanted) h = (ap (λ f. Err (Error f)) h.0, left_after_fault line_offset h.1)
    fault_makes ends h = absurd h
    fault_makes passes h = absurd h
    fault_makes (defines named) h = redefines (defined_in text named) (meaning_of definitions named.name) h.0 h.1
    fault_makes (undefines name) h = absurd h
    fault_makes (tests asked name) h = absurd h
    fault_makes (decides word tokens) (found, condition, is, p) = faulty found condition (ap (λ f. Err (Error f)) is) (left_after_fault line_offset p)
    fault_makes (renumbers word tokens) (found, None, number, first, is, p) =
        unnumbered found None number first (ap (λ f. Err (Error f)) is) (left_after_fault line_offset p)
    fault_makes (renumbers word tokens) (found, Some k, number, first, is, p) =
        unnumbered found (Some k) number first (ap (λ f. Err (Error f)) is) (left_after_fault (pos k -ℤ pos (numbered_line rules word.line)) p)

-- the move after a number sign is that from it on
module _ (rules : Rules) (live : Bool) (block : Option BlockFacts) where
  -- an item after the number sign, and its effect
  name_effect : (token : LexerToken) (name : Option Name) (items after : List Seen) → drop 2 items ≡ after
      → (move_at rules live block (named_directive token name) items).effect ≡ (name_move rules live block token name after).effect
  name_effect token (Some name) items after e = ap (λ rest. (directive_move rules live block (directive_of name) token.location rest).effect) e
  name_effect token None items after e = bare (is_newline token.value) live
    where
      bare : (newline now : Bool) → (move_at rules now block (if newline then sight.Lone else sight.NoWord (refused_token token)) items).effect
          ≡ (if newline then passing 1 else if now then failing (refused_token token) else passing 1).effect
      bare true now = refl
      bare false true = refl
      bare false false = refl

  sight_effect : (first : Result LexerToken Fault) (items after : List Seen) → drop 2 items ≡ after
      → (move_at rules live block (directive_sight first) items).effect ≡ (word_move rules live block first after).effect
  sight_effect (Ok token) items after e = name_effect token (identifier_of token.value) items after e
  sight_effect (Err fault) items after e = by (not live && rules.passes_dead_errors)
    where
      by : (passed : Bool) → (if passed then passing (error_length items) else failing fault).effect ≡ (if passed then passing 1 else failing fault).effect
      by true = refl
      by false = refl

-- what shows a fault from the number sign on is it and what shows one after it
module _ (rules : Rules) (dead : Bool) (blocks : List OpenBlock) (s : Seen) (token : LexerToken) (is : s.item ≡ Ok token) (hash : token.value ≡ Hash) (first : token.start_of_line ≡ true) where
  abbrev live : Bool
  live = is_live_among dead blocks

  on_line : ends_line s.item ≡ false
  on_line = ap ends_line is ∙ ap is_newline hash

  is_hash : is_directive_hash s.item ≡ true
  is_hash = ap is_directive_hash is ∙ rw (hash, first) refl

  line_is : (rest : List Seen) → take (line_length (s ∷ rest)) (s ∷ rest) ≡ s ∷ take (line_length rest) rest
  line_is rest = line_going_on s rest on_line

  -- by GLSL's rules the line is taken
  takes_hash : (rest : List Seen) → takes_line rules (take (line_length (s ∷ rest)) (s ∷ rest)) ≡ rules.passes_dead_errors
  takes_hash rest = ap (takes_line rules) (line_is rest) ∙ either rules.passes_dead_errors (is_directive_hash s.item) is_hash
    where
      either : (passes found : Bool) → found ≡ true → (passes && (found || false)) ≡ passes
      either true true e = refl
      either true false e = cc
      either false found e = refl

  item_effect : (items : List Seen) → (move_of rules dead blocks (s ∷ items)).effect ≡ word_effect rules live (facts_among blocks) token.location items
  item_effect items =
      ap (λ (shown : Sight). (move_at rules live (facts_among blocks) shown (s ∷ items)).effect) (sight_here items)
      ∙ sight_effect rules live (facts_among blocks) (first_token token.location items) (s ∷ items) (drop 1 items) refl
    where
      sight_here : (items : List Seen) → sight_of (s ∷ items) ≡ directive_sight (first_token token.location items)
      sight_here items = ap (λ (item : Lexeme). sight_of (record { item = item; had_comments = s.had_comments } ∷ items)) is ∙ hash_sight token items hash first

  alone : is_shown (word_effect rules live (facts_among blocks) token.location []) ≡ false
  alone = either (not live && rules.passes_dead_errors)
    where
      either : (b : Bool) → is_shown (if b then passing 1 else failing (UnexpectedEndOfInput, token.location)).effect ≡ false
      either true = refl
      either false = refl

  pub hash_taken : (rest : List Seen)
      → drop (taken_by rules.passes_dead_errors (shown_length (word_effect rules live (facts_among blocks) token.location) (take (line_length rest) rest)) rest) rest
      ≡ drop (fault_taken rules dead blocks (s ∷ rest)) (s ∷ rest)
  hash_taken rest =
      let line = take (line_length rest) rest in
      let whole = take (line_length (s ∷ rest)) (s ∷ rest) in
      let effect : List Seen → Effect = λ items. (move_of rules dead blocks items).effect in
      let words = word_effect rules live (facts_among blocks) token.location in
      let counted : shown_length effect whole ≡ suc (shown_length words line) =
      ap (shown_length effect) (line_is rest)
      ∙ ap (λ (b : Bool). if b then 1 else 1 + shown_length (λ more. effect (s ∷ more)) line) (ap is_shown (item_effect []) ∙ alone)
      ∙ ap (λ (n : ℕ). 1 + n) (same_length (λ more. effect (s ∷ more)) words (λ more. ap is_shown (item_effect more)) line)
      ∙ one_past (shown_length words line) in
      let by_rules : (passes : Bool) → drop (if passes then line_length rest else shown_length words line) rest
      ≡ drop (if passes then length whole else shown_length effect whole) (s ∷ rest) =
      λ passes. either_taken passes (line_length rest) (shown_length words line) (length whole) (shown_length effect whole) rest
      (sym (ap (λ (items : List Seen). drop (length items) (s ∷ rest)) (line_is rest) ∙ taken_part (line_length rest) rest))
      (sym (ap (λ (n : ℕ). drop n (s ∷ rest)) counted)) in
      by_rules rules.passes_dead_errors
      ∙ ap (λ (b : Bool). drop (if b then length whole else shown_length effect whole) (s ∷ rest)) (sym (takes_hash rest))
    where
      either_taken : (passes : Bool) (a b m n : ℕ) (items : List Seen) → drop a items ≡ drop m (s ∷ items) → drop b items ≡ drop n (s ∷ items)
          → drop (if passes then a else b) items ≡ drop (if passes then m else n) (s ∷ items)
      either_taken true a b m n items e f = e
      either_taken false a b m n items e f = f

  -- and it isn't over after the number sign
  pub hash_begins : (over : Bool) (rest : List Seen) (mid_over : Bool) (mid more : List Seen) → rest ≡ s ∷ more → mid ≡ drop 1 rest
      → IsFurther over rest mid_over mid → mid_over ≡ false
  hash_begins over rest mid_over mid more whole e went = over_first over rest mid_over mid s more whole e went ∙ on_line

module _ (rules : Rules) (text : ℕ) (earlier : Earlier) (around : List SuspendedText) (definitions : List Defined) (blocks : List OpenBlock)
    (line_offset : ℤ) (has_text has_directive dead : Bool) (contents : ℕ) (old mid : SourceLexed) (new : Source) (taken : mid.rest ≡ drop 1 old.rest)
    (two : error_length old.rest ≡ 2) (given : Given) where
  -- what a move means after the number sign is a step of the source
  abbrev MakesBy : Note → BlockChange → Move → Type 0
  MakesBy note change move = Makes note change move (source_of old rules text earlier around definitions blocks line_offset has_text has_directive dead contents) (shown text given) new

  abbrev MakesMid : Note → BlockChange → Move → Type 0
  MakesMid note change move = Makes note change move (source_of mid rules text earlier around definitions blocks line_offset has_text has_directive dead contents) (shown text given) new

  acts_make : (effect : Effect) (more total : ℕ) (note : Note) (change : BlockChange) → total ≡ 1 + more → MakesMid note change (record { effect = effect; taken = more })
      → MakesBy note change (record { effect = effect; taken = total })
  acts_make effect more total note change sum h =
      effect_after rules text earlier around definitions blocks line_offset has_text has_directive dead contents old mid 1 more total sum taken note change given new effect h

  directive_makes : (live : Bool) (block : Option BlockFacts) (name : Name) (word : Location)
      → MakesMid directive_line (block_change (part_of (directive_of name)) word)
      (taking_more 1 (directive_move rules live block (directive_of name) word (drop 1 mid.rest)))
      → MakesBy directive_line (block_change (part_of (directive_of name)) word)
      (taking_more 2 (directive_move rules live block (directive_of name) word (drop 2 old.rest)))
  directive_makes live block name word h =
      let move = directive_move rules live block (directive_of name) word (drop 2 old.rest) in
      let after : drop 1 mid.rest ≡ drop 2 old.rest = ap (drop 1) taken ∙ drop-drop 1 1 old.rest in
      let change = block_change (part_of (directive_of name)) word in
      acts_make move.effect (1 + move.taken) (2 + move.taken) directive_line change (omega arith)
      (subst (λ (rest : List Seen). MakesMid directive_line change (taking_more 1 (directive_move rules live block (directive_of name) word rest))) after h)

  -- a number sign without a word
  bare_makes : (live newline : Bool) (fault : Fault) (block : Option BlockFacts)
      → MakesMid (note_at live (if newline then sight.Lone else sight.NoWord fault))
      (block_change_at (if newline then sight.Lone else sight.NoWord fault))
      (if newline then passing 1 else if live then failing fault else passing 1)
      → MakesBy (note_at live (if newline then sight.Lone else sight.NoWord fault))
      (block_change_at (if newline then sight.Lone else sight.NoWord fault))
      (move_at rules live block (if newline then sight.Lone else sight.NoWord fault) old.rest)
  bare_makes live true fault block h = acts_make passes 1 2 directive_line unchanged refl h
  bare_makes true false fault block h = acts_make (fails fault) 0 1 unnoted unchanged refl h
  bare_makes false false fault block h = acts_make passes 1 2 unnoted unchanged refl h

  name_makes : (live : Bool) (block : Option BlockFacts) (token : LexerToken) (name : Option Name)
      → MakesMid (note_at live (named_directive token name)) (block_change_at (named_directive token name))
      (name_move rules live block token name (drop 1 mid.rest))
      → MakesBy (note_at live (named_directive token name)) (block_change_at (named_directive token name))
      (move_at rules live block (named_directive token name) old.rest)
  name_makes live block token None h = bare_makes live (is_newline token.value) (refused_token token) block h
  name_makes live block token (Some name) h = directive_makes live block name token.location h

  -- an error of the lexer after it
  error_makes : (fault : Fault) (passed : Bool)
      → MakesMid unnoted unchanged (if passed then passing 1 else failing fault)
      → MakesBy unnoted unchanged (if passed then passing (error_length old.rest) else failing fault)
  error_makes fault true h = acts_make passes 1 (error_length old.rest) unnoted unchanged two h
  error_makes fault false h = absurd (shown_no_fault text text given _ h.0)

  word_makes : (live : Bool) (block : Option BlockFacts) (first : Result LexerToken Fault)
      → MakesMid (word_note live first) (block_change_at (directive_sight first)) (word_move rules live block first (drop 1 mid.rest))
      → MakesBy (word_note live first) (block_change_at (directive_sight first)) (move_at rules live block (directive_sight first) old.rest)
  word_makes live block (Ok token) h = name_makes live block token (identifier_of token.value) h
  word_makes live block (Err fault) h = error_makes fault (not live && rules.passes_dead_errors) h

module _ (rules : Rules) (old new : Source) where
  -- in dead text a token that begins no directive is passed
  dead_token : (value : LexerTokenValue) (location : Location) (blank at_start : Bool) (rest items : List Seen) (block : Option BlockFacts)
      → (value ≡ Hash → at_start ≡ false) → Pauses 1 unnoted old.blocks old (Err Continue) new
      → let shown = token_sight (record { value = value; location = location; leading_whitespace = blank; start_of_line = at_start }) rest in
      Makes (note_at false shown) (block_change_at shown) (move_at rules false block shown items) old (Err Continue) new
  dead_token Hash location blank true rest items block none h = let bad = none refl in cc
  dead_token Hash location blank false rest items block none h = h
  dead_token NewLine location blank at_start rest items block none h = h
  dead_token (LexerIdent name) location blank at_start rest items block none h = h
  dead_token (LexerInteger i) location blank at_start rest items block none h = h
  dead_token (LexerFloat f) location blank at_start rest items block none h = h
  dead_token (LexerPunct p) location blank at_start rest items block none h = h

fewer_after : (rest after : List Seen) (token : LexerToken) → next_token rest ≡ Ok (Some token) → after ≡ drop 1 rest → length after < length rest
fewer_after [] after token e d = cc
fewer_after (s ∷ rest) after token e d = omega (arith, ap length d)

-- an error after a directive's number sign takes both
hash_length : (rest after : List Seen) (token : LexerToken) → next_token rest ≡ Ok (Some token) → token.value ≡ Hash → token.start_of_line ≡ true
    → after ≡ drop 1 rest → after ≢ [] → error_length rest ≡ 2
hash_length [] after token e v s d some = cc
hash_length (first ∷ []) after token e v s d some = absurd (some d)
hash_length (first ∷ second ∷ rest) after token e v s d some = ap (λ b. if b then 2 else 1) (is_first first.item e)
  where
    is_first : (item : Lexeme) → as_next item ≡ Ok (Some token) → is_directive_hash item ≡ true
    is_first (Err fault) e = cc
    is_first (Ok other) e = let same : other ≡ token = cc in rw (same, v, s) refl

-- the lexer gave a token, which is after the source now
module _ (rules : Rules) (text : ℕ) (earlier : Earlier) (around : List SuspendedText) (definitions : List Defined) (blocks : List OpenBlock)
    (line_offset : ℤ) (has_text has_directive dead : Bool) (contents : ℕ) (old mid : SourceLexed) (token : LexerToken) (unspent : old.spent ≡ false)
    (gave : next_token old.rest ≡ Ok (Some token)) (took : HasTaken 1 old mid) where
  -- the source shows this
  in_front : sight_of old.rest ≡ token_sight token mid.rest
  in_front = token_shown old.rest token gave ∙ ap (token_sight token) (sym took.rest)

  steps_by : (step : PlacedStep Token) (new : Source) → IsRefusedStep (source_of old rules text earlier around definitions blocks line_offset has_text has_directive dead contents) step
      ⊎ Makes (note_at (is_live_among dead blocks) (token_sight token mid.rest)) (block_change_at (token_sight token mid.rest))
      (move_at rules (is_live_among dead blocks) (facts_among blocks) (token_sight token mid.rest) old.rest)
      (source_of old rules text earlier around definitions blocks line_offset has_text has_directive dead contents) step new
      → StepsSource (source_of old rules text earlier around definitions blocks line_offset has_text has_directive dead contents) step new
  steps_by step new h = steps_unspent (source_of old rules text earlier around definitions blocks line_offset has_text has_directive dead contents) step new unspent (rw in_front h)

  -- the number sign is the first item
  hash_here : (rest : List Seen) → next_token rest ≡ Ok (Some token) → (s : Seen) × (s.item ≡ Ok token) × (rest ≡ s ∷ drop 1 rest)
  hash_here [] e = cc
  hash_here (s ∷ rest) e = by s.item refl e
    where
      by : (item : Lexeme) → s.item ≡ item → as_next item ≡ Ok (Some token) → (t : Seen) × (t.item ≡ Ok token) × (s ∷ rest ≡ t ∷ rest)
      by (Ok found) is e = let same : found ≡ token = cc in (s, is ∙ ap Ok same, refl)
      by (Err fault) is e = cc

  module _ (new : Source) (v : token.value ≡ Hash) (first : token.start_of_line ≡ true) (some : mid.rest ≢ []) where
    abbrev act : LineAct
    act = word_act rules (is_live_among dead blocks) (facts_among blocks) token.location mid.rest

    abbrev StepsBy : Result Given DirectiveHalt → Type 0
    StepsBy given = IsRefusedStep (source_of old rules text earlier around definitions blocks line_offset has_text has_directive dead contents) (step_at text given)
        ⊎ Makes (note_at (is_live_among dead blocks) (directive_sight (first_token token.location mid.rest)))
        (block_change_at (directive_sight (first_token token.location mid.rest)))
        (move_at rules (is_live_among dead blocks) (facts_among blocks) (directive_sight (first_token token.location mid.rest)) old.rest)
        (source_of old rules text earlier around definitions blocks line_offset has_text has_directive dead contents) (step_at text given) new

    two_items : drop 2 old.rest ≡ drop 1 mid.rest
    two_items = sym (ap (drop 1) took.rest ∙ drop-drop 1 1 old.rest)

    stays : left_of rules dead blocks old.rest ≡ act.left
    stays = ap (λ (shown : Sight). left_at rules (is_live_among dead blocks) (facts_among blocks) shown (drop 2 old.rest)) (in_front ∙ hash_sight token mid.rest v first)
        ∙ ap (left_at rules (is_live_among dead blocks) (facts_among blocks) (directive_sight (first_token token.location mid.rest))) two_items

    front_taken : drop (taken_by rules.passes_dead_errors act.taken mid.rest) mid.rest ≡ drop (fault_taken rules dead blocks old.rest) old.rest
    front_taken =
        let (s, is, whole) = hash_here old.rest gave in
        ap (λ (rest : List Seen). drop (taken_by rules.passes_dead_errors
        (shown_length (word_effect rules (is_live_among dead blocks) (facts_among blocks) token.location) (take (line_length rest) rest)) rest) rest) took.rest
        ∙ hash_taken rules dead blocks s token is v first (drop 1 old.rest)
        ∙ ap (λ (rest : List Seen). drop (fault_taken rules dead blocks rest) rest) (sym whole)

    begun : mid.over ≡ false
    begun =
        let (s, is, whole) = hash_here old.rest gave in
        hash_begins rules dead blocks s token is v first old.over old.rest mid.over mid.rest (drop 1 old.rest) whole took.rest took.further

    within : act.taken ≤ line_length mid.rest
    within = shown_within (word_effect rules (is_live_among dead blocks) (facts_among blocks) token.location) mid.rest

    stops : (h : PlacedHalt) → Stops (skipping rules.passes_dead_errors mid.rest act) (source_of mid rules text earlier around definitions blocks line_offset has_text has_directive dead contents) h new
        → IsRefusedStep (source_of old rules text earlier around definitions blocks line_offset has_text has_directive dead contents) (Err (exit_of h))
        ⊎ Makes (note_at (is_live_among dead blocks) (directive_sight (first_token token.location mid.rest)))
        (block_change_at (directive_sight (first_token token.location mid.rest)))
        (move_at rules (is_live_among dead blocks) (facts_among blocks) (directive_sight (first_token token.location mid.rest)) old.rest)
        (source_of old rules text earlier around definitions blocks line_offset has_text has_directive dead contents) (Err (exit_of h)) new
    stops (halt.Fault fault) h =
        let move = move_at rules (is_live_among dead blocks) (facts_among blocks) (directive_sight (first_token token.location mid.rest)) old.rest in
        let note = note_at (is_live_among dead blocks) (directive_sight (first_token token.location mid.rest)) in
        let change = block_change_at (directive_sight (first_token token.location mid.rest)) in
        inr (subst (λ (e : Effect). HasEffect e move.taken note change (source_of old rules text earlier around definitions blocks line_offset has_text has_directive dead contents) (Err (Error fault)) new)
        (sym (sight_effect rules (is_live_among dead blocks) (facts_among blocks) (first_token token.location mid.rest) old.rest (drop 1 mid.rest) two_items))
        (fault_makes rules text earlier around definitions blocks has_text has_directive dead contents old mid new (fewer_after old.rest mid.rest token gave took.rest)
        (taken_by rules.passes_dead_errors act.taken mid.rest) act.left front_taken stays line_offset fault move.taken note change act.move.effect h))
    stops halt.OutOfMemory h = inl (record { some_left = λ e. absurd (omega (arith, ap length e, fewer_after old.rest mid.rest token gave took.rest)); fault = refl })

    makes : (given : Result Given DirectiveHalt)
        → DoesAct (shown text) (word_note (is_live_among dead blocks) (first_token token.location mid.rest)) (skipping rules.passes_dead_errors mid.rest act)
        (source_of mid rules text earlier around definitions blocks line_offset has_text has_directive dead contents) given new → StepsBy given
    makes (Ok given) h = inr (word_makes rules text earlier around definitions blocks line_offset has_text has_directive dead contents old mid new took.rest
        (hash_length old.rest mid.rest token gave v first took.rest some) given (is_live_among dead blocks) (facts_among blocks) (first_token token.location mid.rest) h)
    makes (Err h) does = stops (placed_at text h) does

    pub step_directive : (step : PlacedStep Token)
        → StepsDirective token.location (source_of mid rules text earlier around definitions blocks line_offset has_text has_directive dead contents) step new
        → StepsSource (source_of old rules text earlier around definitions blocks line_offset has_text has_directive dead contents) step new
    step_directive step acts =
        let made = makes acts.given (skips_move _ act acts.given (source_of mid rules text earlier around definitions blocks line_offset has_text has_directive dead contents) acts.mid new begun within acts.gives.acts acts.skips) in
        subst (λ (x : PlacedStep Token). StepsSource (source_of old rules text earlier around definitions blocks line_offset has_text has_directive dead contents) x new) (sym acts.is)
        (steps_by (step_at text acts.given) new (rw (hash_sight token mid.rest v first) made))

  -- in dead text a token that begins no directive is passed
  pub step_passes : is_live_among dead blocks ≡ false → (token.value ≡ Hash → token.start_of_line ≡ false)
      → StepsSource (source_of old rules text earlier around definitions blocks line_offset has_text has_directive dead contents) (Err Continue)
      (source_of mid rules text earlier around definitions blocks line_offset has_text has_directive dead contents)
  step_passes is_dead begins_none =
      let t = took in
      steps_by (Err Continue) (source_of mid rules text earlier around definitions blocks line_offset has_text has_directive dead contents)
      (inr (rw is_dead (dead_token rules (source_of old rules text earlier around definitions blocks line_offset has_text has_directive dead contents)
      (source_of mid rules text earlier around definitions blocks line_offset has_text has_directive dead contents) token.value token.location token.leading_whitespace token.start_of_line mid.rest old.rest (facts_among blocks) begins_none (
        refl,
        record { rules = refl; text = refl; earlier = refl; around = refl; rest = t.rest; blocks = refl; line_offset = refl; spent = t.spent; has_text = refl; has_directive = refl; dead_for_good = refl; contents = refl },
        refl,
      ))))

-- the lexer gave an error, which is passed
module _ (rules : Rules) (text : ℕ) (earlier : Earlier) (around : List SuspendedText) (definitions : List Defined) (blocks : List OpenBlock) (line_offset : ℤ) (has_text has_directive dead : Bool) (contents : ℕ) (old mid : SourceLexed) where
  error_front : (rest : List Seen) (fault : Fault) → ◌≡◌ {A = Result (Option LexerToken) Fault} (next_token rest) (Err fault)
      → (sight_of rest ≡ sight.Fault fault) × (error_length rest ≡ 1)
  error_front [] fault e = cc
  error_front (s ∷ rest) fault e = (seen s.item e, alone rest s.item e)
    where
      seen : (item : Lexeme) → ◌≡◌ {A = Result (Option LexerToken) Fault} (as_next item) (Err fault)
          → sight_of (record { item = item; had_comments = s.had_comments } ∷ rest) ≡ sight.Fault fault
      seen (Ok token) e = cc
      seen (Err found) e = let same : found ≡ fault = cc in ap sight.Fault same

      alone : (rest : List Seen) (item : Lexeme) → ◌≡◌ {A = Result (Option LexerToken) Fault} (as_next item) (Err fault)
          → error_length (record { item = item; had_comments = s.had_comments } ∷ rest) ≡ 1
      alone [] item e = refl
      alone (t ∷ more) (Ok token) e = cc
      alone (t ∷ more) (Err found) e = refl

  pub step_errs : (fault : Fault) → old.spent ≡ false → next_token old.rest ≡ Err fault → HasTaken 1 old mid
      → (not (is_live_among dead blocks) && rules.passes_dead_errors) ≡ true
      → StepsSource (source_of old rules text earlier around definitions blocks line_offset has_text has_directive dead contents) (Err Continue)
      (source_of mid rules text earlier around definitions blocks line_offset has_text has_directive dead contents)
  step_errs fault unspent gave took passed =
      let front = error_front old.rest fault gave in
      steps_unspent _ _ _ unspent (inr (rw (front.0, passed, front.1) (
        refl,
        record { rules = refl; text = refl; earlier = refl; around = refl; rest = took.rest; blocks = refl; line_offset = refl; spent = took.spent; has_text = refl; has_directive = refl; dead_for_good = refl; contents = refl },
        refl,
      )))

-- an error of the lexer is what is shown
shown_error : (s : Seen) (rest : List Seen) (fault : Fault) → ◌≡◌ {A = Result (Option LexerToken) Fault} (as_next s.item) (Err fault) → sight_of (s ∷ rest) ≡ sight.Fault fault
shown_error s rest fault e = seen s.item e
  where
    seen : (item : Lexeme) → ◌≡◌ {A = Result (Option LexerToken) Fault} (as_next item) (Err fault)
        → sight_of (record { item = item; had_comments = s.had_comments } ∷ rest) ≡ sight.Fault fault
    seen (Ok token) e = cc
    seen (Err found) e = let same : found ≡ fault = cc in ap sight.Fault same

shown_front : (rest : List Seen) (fault : Fault) → ◌≡◌ {A = Result (Option LexerToken) Fault} (next_token rest) (Err fault) → sight_of rest ≡ sight.Fault fault
shown_front [] fault e = cc
shown_front (s ∷ rest) fault e = shown_error s rest fault e

-- the lexer gave an error that isn't passed, or memory ran out
module _ (rules : Rules) (text : ℕ) (earlier : Earlier) (around : List SuspendedText) (definitions : List Defined) (blocks : List OpenBlock) (line_offset : ℤ) (has_text has_directive dead : Bool) (contents : ℕ) (old mid : SourceLexed) where
  error_taken : (rest : List Seen) (fault : Fault) → ◌≡◌ {A = Result (Option LexerToken) Fault} (next_token rest) (Err fault)
      → (not (is_live_among dead blocks) && rules.passes_dead_errors) ≡ false → (is_shown (fails fault) ≡ true) ⊎ (drop 1 rest ≡ [])
      → drop 1 rest ≡ drop (fault_taken rules dead blocks rest) rest
  error_taken [] fault e given h = cc
  error_taken (s ∷ rest) fault e given h =
      let effect : List Seen → Effect = λ items. (move_of rules dead blocks items).effect in
      let line = take (line_length (s ∷ rest)) (s ∷ rest) in
      let alone : effect (s ∷ []) ≡ fails fault =
      ap (λ (shown : Sight). (move_at rules (is_live_among dead blocks) (facts_among blocks) shown (s ∷ [])).effect) (shown_error s [] fault e)
      ∙ ap (λ (b : Bool). (if b then passing (error_length (s ∷ [])) else failing fault).effect) given in
      ap (λ (n : ℕ). drop n (s ∷ rest)) (sym (first_length effect s rest (by h alone)))
      ∙ ap (λ (b : Bool). drop (if b then length line else shown_length effect line) (s ∷ rest)) (sym (no_hash rules.passes_dead_errors))
    where
      by : (is_shown (fails fault) ≡ true) ⊎ (rest ≡ []) → (move_of rules dead blocks (s ∷ [])).effect ≡ fails fault
          → (is_shown (move_of rules dead blocks (s ∷ [])).effect ≡ true) ⊎ (rest ≡ [])
      by (inl shown) alone = inl (ap is_shown alone ∙ shown)
      by (inr none) alone = inr none

      no_sign : (item : Lexeme) → ◌≡◌ {A = Result (Option LexerToken) Fault} (as_next item) (Err fault) → is_directive_hash item ≡ false
      no_sign (Ok token) e = cc
      no_sign (Err found) e = refl

      one_taken : (ends : Bool) → take 1 (take (if ends then 1 else 1 + line_length rest) (s ∷ rest)) ≡ s ∷ []
      one_taken true = refl
      one_taken false = ap (λ (n : ℕ). take 1 (take n (s ∷ rest))) (one_past (line_length rest))

      either : (passes found : Bool) → found ≡ false → (passes && (found || false)) ≡ false
      either true false is = refl
      either true true is = cc
      either false found is = refl

      no_hash : (passes : Bool) → (passes && list_any (λ t. is_directive_hash t.item) (take 1 (take (line_length (s ∷ rest)) (s ∷ rest)))) ≡ false
      no_hash by_rules = ap (λ items. by_rules && list_any (λ t. is_directive_hash t.item) items) (one_taken (ends_line s.item))
          ∙ either by_rules (is_directive_hash s.item) (no_sign s.item e)

  lone_fault : (fault : Fault) → ◌≡◌ {A = Result (Option LexerToken) Fault} (next_token old.rest) (Err fault)
      → (not (is_live_among dead blocks) && rules.passes_dead_errors) ≡ false → HasTaken 1 old mid → length mid.rest < length old.rest
      → (is_shown (fails fault) ≡ true) ⊎ (mid.rest ≡ [])
      → IsAfterFault (source_of old rules text earlier around definitions blocks line_offset has_text has_directive dead contents)
      (source_of mid rules text earlier around definitions blocks line_offset has_text has_directive dead contents)
  lone_fault fault e given took some h =
      let none : left_of rules dead blocks old.rest ≡ nothing_left =
      ap (λ (shown : Sight). left_at rules (is_live_among dead blocks) (facts_among blocks) shown (drop 2 old.rest)) (shown_front old.rest fault e) in
      record {
        rules = refl;
        text = refl;
        earlier = refl;
        around = refl;
        contents = refl;
        has_text = refl;
        rest = took.rest ∙ error_taken old.rest fault e given (last h);
        fewer = omega (arith, some);
        blocks = ap (λ (l : LineLeft). l.change None blocks) (sym none);
        definitions = subst (λ (l : LineLeft). IsUndefined l.undefined definitions definitions) (sym none) refl;
        line_offset = refl;
        has_directive = ap (λ (l : LineLeft). l.is_directive || has_directive) (sym none);
        dead_for_good = ap (λ (l : LineLeft). l.is_dead || dead) (sym none);
        spent = took.spent;
      }
    where
      last : (is_shown (fails fault) ≡ true) ⊎ (mid.rest ≡ []) → (is_shown (fails fault) ≡ true) ⊎ (drop 1 old.rest ≡ [])
      last (inl shown) = inl shown
      last (inr nothing) = inr (sym took.rest ∙ nothing)

  pub step_halts : old.spent ≡ false → (h : Halt) (result : PlacedExit) (new : Source) → TakesToken old (Err h) mid
      → ((fault : Fault) → h ≡ line_halt.Fault fault → (not (is_live_among dead blocks) && rules.passes_dead_errors) ≡ false)
      → result ≡ exit_of (placed_halt_of text h) → new ≡ source_of mid rules text earlier around definitions blocks line_offset has_text has_directive dead contents
      → StepsSource (source_of old rules text earlier around definitions blocks line_offset has_text has_directive dead contents) (Err result) new
  step_halts unspent (line_halt.Fault fault) result new token given is there =
      rw (is, there) (steps_unspent _ _ _ unspent (inr (rw (shown_front old.rest fault token.is, given fault refl) (
        refl,
        lone_fault fault token.is (given fault refl) token.takes token.some token.fault,
      ))))
  step_halts unspent line_halt.OutOfMemory result new token given is there =
      rw (is, there) (steps_unspent _ _ _ unspent (inl (record { some_left = token.refused; fault = refl })))

-- the lexer gave nothing, and stands where it stood
module _ (rules : Rules) (text : ℕ) (earlier : Earlier) (around : List SuspendedText) (definitions : List Defined) (blocks : List OpenBlock) (line_offset : ℤ) (has_text has_directive dead : Bool) (contents : ℕ) (old mid : SourceLexed) where
  same_source : mid.rest ≡ old.rest → mid.over ≡ old.over → mid.places ≡ old.places → mid.error_place ≡ old.error_place → mid.spent ≡ old.spent
      → source_of mid rules text earlier around definitions blocks line_offset has_text has_directive dead contents ≡ source_of old rules text earlier around definitions blocks line_offset has_text has_directive dead contents
  same_source rest over places error_place spent = rw (rest, over, places, error_place, spent) refl

  no_items : (rest : List Seen) → ◌≡◌ {A = Result (Option LexerToken) Fault} (next_token rest) (Ok None) → rest ≡ []
  no_items [] e = refl
  no_items (s ∷ rest) e = go s.item e
    where
      go : (item : Lexeme) → ◌≡◌ {A = Result (Option LexerToken) Fault} (as_next item) (Ok None) → s ∷ rest ≡ []
      go (Ok token) e = cc
      go (Err fault) e = cc

  pub step_ends : old.spent ≡ false → (next : Option LexerToken) → next ≡ None → next_token old.rest ≡ Ok next → HasTaken 1 old mid
      → EndKeepsPlaces (Ok next) old mid → (step : PlacedStep Token) (new : Source)
      → StepsSource (source_of mid rules text earlier around definitions blocks line_offset has_text has_directive dead contents) step new
      → StepsSource (source_of old rules text earlier around definitions blocks line_offset has_text has_directive dead contents) step new
  step_ends unspent next none gave took ended step new h = subst (λ (s : Source). StepsSource s step new) same h
    where
      stays : (mid.places ≡ old.places) × (mid.error_place ≡ old.error_place)
      stays = rw none at ended

      same : source_of mid rules text earlier around definitions blocks line_offset has_text has_directive dead contents ≡ source_of old rules text earlier around definitions blocks line_offset has_text has_directive dead contents
      same =
          let empty = no_items old.rest (gave ∙ ap (λ (o : Option LexerToken). Ok o) none) in
          same_source (took.rest ∙ ap (drop 1) empty ∙ sym empty) (over_last old.over old.rest mid.over mid.rest empty took.further) stays.0 stays.1 (took.spent ∙ sym unspent)
