-- A text gives its end only once nothing of it is left, and then reading goes on in the text around it.
use Rattle.std.proofs.Common.{◌≡◌, ◌∙◌, ◌⊎◌, inl, inr, ℕ, ◌-◌, Bool, true, false, if◌then◌else◌, List, [], ◌∷◌, ◌++◌, length, drop, reverse, refl, ap, sym, subst, Option, Some, None, Result, Ok, Err, arith}
use Rattle.std.specs.Prelude.{MatchBool, slice_get, ◌||◌, ℤ}
use Rattle.std.proofs.lemmas.List.{reverse-append}
use Rattle.pp_lexer.specs.Items.{Lexeme}
use Rattle.pp_lexer.specs.Lexed.{Lexed, Seen}
use Rattle.pp_lexer.specs.declared.lexer.item.Token.{Token as LexerToken}
use Rattle.pp_lexer.specs.declared.lexer.item.TokenValue.{TokenValue as LexerTokenValue}
use Rattle.pp_lexer.specs.declared.lexer.item.TokenValue.TheVariants.{Hash, NewLine}
use Rattle.pp_lexer.specs.declared.rules.Rules.{Rules}
use Rattle.pp_lexer.specs.declared.token.Location.{Location}
use Rattle.pp_lexer.specs.declared.token.Token.{Token}
use Rattle.pp_model.specs.Conversions.{is_newline, identifier_of, refused_token}
use Rattle.pp_model.specs.Lines.{first_token}
use Rattle.pp_model.specs.Moves.{BlockFacts, failing, passing, directive_move, error_length, move_at}
use Rattle.pp_model.specs.Names.{Name}
use Rattle.pp_model.specs.Places.{Fault}
use Rattle.pp_model.specs.Sights.{sight_of, token_sight, named_directive}
use Rattle.pp_model.specs.declared.directive.Directive.{Directive}
use Rattle.pp_model.specs.declared.sight.Sight.{Sight}
use Rattle.pp_model.specs.declared.sight.Sight.TheVariants as sight
use Rattle.pp_model.specs.inner.Sights.{item_sight, directive_sight}
use Rattle.pp_model.proofs.source.MovesLemmas.{directive_holds}
use Rattle.pp_macros.specs.Item.{PlacedStep}
use Rattle.pp_macros.specs.declared.blocks.OpenBlock.{OpenBlock}
use Rattle.pp_macros.specs.declared.step.PlacedExit.{PlacedExit}
use Rattle.pp_macros.specs.declared.step.PlacedExit.TheVariants.{Continue, Finished}
use Rattle.pp_macros.specs.inner.OpenBlocks.{last_block, facts_among, is_live_among, block_change_at}
use Rattle.pp_macros.specs.inner.Reader.{ReadsSource, reads, leaves, IsTextOver}
use Rattle.pp_macros.specs.inner.Source.{SuspendedText, Source, Ends, IsRefusedStep, Makes, MakesMove, StepsSource, resumed, unreported_of}
use Rattle.pp_macros.specs.inner.SourceLexed.{SourceLexed}
use Rattle.pp_macros.specs.inner.Defined.{Defined}
use Rattle.pp_macros.specs.inner.SourceMoves.{note_of, move_of}
use Rattle.pp_macros.specs.inner.Unreported.{StepReports}
use Rattle.pp_macros.proofs.work.FinishedLemmas.{is_end_effect, finished_ends}
use Rattle.pp_directives.specs.inner.Suspending.{IsReadable, LeavesText, stays, goes_on, reading}
use Rattle.pp_directives.proofs.SourceActsLemmas.{source_of}

-- where an item stands in front, it is not the end that is seen
bare_there : (newline : Bool) (fault : Fault) → (if newline then sight.Lone else sight.NoWord fault) ≡ sight.End → ⊥
bare_there true fault e = cc
bare_there false fault e = cc

word_there : (token : LexerToken) (name : Option Name) → named_directive token name ≡ sight.End → ⊥
word_there token (Some name) e = cc
word_there token None e = bare_there (is_newline token.value) (refused_token token) e

directive_there : (first : Result LexerToken Fault) → directive_sight first ≡ sight.End → ⊥
directive_there (Ok token) e = word_there token (identifier_of token.value) e
directive_there (Err fault) e = cc

token_there : (token : LexerToken) (value : LexerTokenValue) (at_start : Bool) (rest : List Seen)
    → token_sight (record token { value = value; start_of_line = at_start }) rest ≡ sight.End → ⊥
token_there token Hash true rest e = directive_there (first_token token.location rest) e
token_there token Hash false rest e = cc
token_there token NewLine at_start rest e = cc
token_there token _ at_start rest e = cc

pub item_there : (item : Lexeme) (rest : List Seen) → item_sight item rest ≡ sight.End → ⊥
item_there (Err fault) rest e = cc
item_there (Ok token) rest e = token_there token token.value token.start_of_line rest e

-- no directive comes to the end
directive_goes_on : (rules : Rules) (live : Bool) (block : Option BlockFacts) (directive : Directive) (word : Location) (after : List Seen)
    → is_end_effect (directive_move rules live block directive word after).effect ≡ false
directive_goes_on rules live block directive word after =
    directive_holds (λ move. is_end_effect move.effect ≡ false) rules block word after live directive (record {
      failing = λ fault. refl;
      refusing = λ fault. refl;
      unknown = λ live its. refl;
      passing = λ why. refl;
      items = λ live its value is. refl;
      asking = λ live its. refl;
      defining = λ live its named is. refl;
      undefining = λ live its name. refl;
      numbering = λ live its tokens. refl;
      testing = λ live its asked name. refl;
      deciding = λ why tokens. refl;
    })

-- what stands there is the end only after all items
pub sight_goes_on : (rules : Rules) (live : Bool) (block : Option BlockFacts) (shown : Sight) (rest : List Seen) → (shown ≡ sight.End → ⊥)
    → is_end_effect (move_at rules live block shown rest).effect ≡ false
sight_goes_on rules live block sight.End rest h = absurd (h refl)
sight_goes_on rules live block (sight.Directive directive word) rest h = directive_goes_on rules live block directive word (drop 2 rest)
sight_goes_on rules false block (sight.Fault fault) rest h = go rules.passes_dead_errors
  where
    go : (passed : Bool) → is_end_effect (if passed then passing (error_length rest) else failing fault).effect ≡ false
    go true = refl
    go false = refl
sight_goes_on rules true block _ rest h = refl
sight_goes_on rules false block _ rest h = refl

some_last : (first : OpenBlock) (blocks : List OpenBlock) → slice_get (first ∷ blocks) (length blocks) ≡ None → ⊥
some_last first [] e = cc
some_last first (next ∷ blocks) e = some_last next blocks e

one_less : (first : OpenBlock) (blocks : List OpenBlock) → length (first ∷ blocks) - 1 ≡ length blocks
one_less first blocks = omega arith

-- there are no open blocks without a last one
pub no_blocks : (blocks : List OpenBlock) → last_block blocks ≡ None → blocks ≡ []
no_blocks [] e = refl
no_blocks (first ∷ blocks) e = absurd (some_last first blocks (ap (slice_get (first ∷ blocks)) (sym (one_less first blocks)) ∙ e))

-- the end changes nothing, and is given where no item and no open block is left
abbrev pub IsAtEnd : Source → Source → Type 0
IsAtEnd old new = (new ≡ old) × (old.rest ≡ []) × (old.blocks ≡ [])

end_there : (last : Option OpenBlock) (old new : Source) → last_block old.blocks ≡ last → old.rest ≡ [] → Ends last old (Err Finished) new → IsAtEnd old new
end_there None old new none e h = (h.1, e, no_blocks old.blocks none)
end_there (Some kept) old new some e h = let bad = h.0 in cc

makes_end : (rest : List Seen) (old new : Source) → old.rest ≡ rest
    → Makes (note_of old.dead_for_good old.blocks rest) (block_change_at (sight_of rest)) (move_of old.rules old.dead_for_good old.blocks rest) old (Err Finished) new
    → IsAtEnd old new
makes_end [] old new e h = end_there (last_block old.blocks) old new refl e h
makes_end (s ∷ rest) old new e h =
    let move = move_of old.rules old.dead_for_good old.blocks (s ∷ rest) in
    let on : is_end_effect move.effect ≡ false =
    sight_goes_on old.rules (is_live_among old.dead_for_good old.blocks) (facts_among old.blocks) (sight_of (s ∷ rest)) (s ∷ rest) (λ is. item_there s.item rest is) in
    let off : is_end_effect move.effect ≡ true =
    finished_ends move.effect move.taken (note_of old.dead_for_good old.blocks (s ∷ rest)) (block_change_at (sight_of (s ∷ rest))) old new h in
    absurd (let bad : false ≡ true = sym on ∙ off in cc)

-- A step that is the end changes nothing, and gives it there or after memory ran out
abbrev pub EndsText : Source → Source → Type 0
EndsText old new = (new ≡ old) × (old.spent ≡ false → IsTextOver old)

pub ends_text : (old new : Source) (spent : Bool) → old.spent ≡ spent
    → MatchBool spent ((◌≡◌ {A = PlacedStep Token} (Err Finished) (Err Finished)) × (new ≡ old))
    (IsRefusedStep old (Err Finished) ⊎ MakesMove old (Err Finished) new) → EndsText old new
ends_text old new true e h = (h.1, λ unspent. let bad : true ≡ false = sym e ∙ unspent in cc)
ends_text old new false e (inl h) = let bad = h.fault in cc
ends_text old new false e (inr h) =
    let end = makes_end old.rest old new refl h in
    (end.0, λ unspent. record { spent = unspent; rest = end.1; blocks = end.2 })

-- what comes after it is a step of the source
goes_around : (old mid new : Source) (exit : PlacedExit) → StepsSource old (Err Finished) mid
    → StepReports {A = Token} old.rules.passes_dead_errors (Err Finished) (unreported_of old) (unreported_of mid) → EndsText old mid
    → LeavesText mid exit new → ReadsSource old (Err exit) new
goes_around old mid new exit steps reports ended (stays why is same) =
    reads (Err Finished) (subst (λ (s : Source). StepsSource old (Err Finished) s) (sym same) steps)
    (subst (λ (s : Source). StepReports {A = Token} old.rules.passes_dead_errors (Err Finished) (unreported_of old) (unreported_of s)) (sym same) reports)
    (λ end. subst (λ (s : Source). (s.spent ≡ true) ⊎ (s.around ≡ [])) ended.0 why) (ap Err is)
goes_around old mid new exit steps reports ended (goes_on outer around unspent more is after) =
    leaves outer around (ended.1 (sym (ap (λ (s : Source). s.spent) ended.0) ∙ unspent)) (sym (ap (λ (s : Source). s.around) ended.0) ∙ more) (ap Err is)
    (after ∙ ap (resumed outer around) ended.0)

pub leaves_text : (old mid new : Source) (exit : PlacedExit) → StepsSource old (Err Finished) mid
    → StepReports {A = Token} old.rules.passes_dead_errors (Err Finished) (unreported_of old) (unreported_of mid)
    → LeavesText mid exit new → ReadsSource old (Err exit) new
leaves_text old mid new exit steps reports left = goes_around old mid new exit steps reports (ends_text old mid old.spent refl steps) left

-- the last of the texts around is read on
pub resumes : (rules : Rules) (text : ℕ) (earlier_text earlier_directive : Bool) (texts rest : List SuspendedText) (outer : SuspendedText)
    (definitions : List Defined) (blocks : List OpenBlock) (line_offset : ℤ) (has_text has_directive dead : Bool) (contents : ℕ) (old new : SourceLexed)
    (l : Lexed) → old.spent ≡ false → IsReadable l → l.rest ≡ outer.rest → l.places ≡ outer.places → l.over ≡ outer.over → new ≡ reading l old.error_place
    → texts ≡ rest ++ outer ∷ []
    → LeavesText (source_of old rules text (record { text = earlier_text; directive = earlier_directive }) (reverse texts) definitions blocks line_offset
    has_text has_directive dead contents) Continue
    (source_of new rules outer.text (record { text = earlier_text || has_text; directive = earlier_directive || has_directive }) (reverse rest) definitions
    outer.blocks outer.line_offset outer.has_text outer.has_directive outer.dead_for_good contents)
resumes rules text earlier_text earlier_directive texts rest outer definitions blocks line_offset has_text has_directive dead contents old new l unspent
    readable items places over read split =
    rw read (goes_on outer (reverse rest) unspent (ap reverse split ∙ reverse-append rest (outer ∷ [])) refl
    (rw (items, places, over, readable.unspent, unspent) refl))
