-- How many items a fault takes: what is left of the text can come after what was read.
use Rattle.std.proofs.Common.{◌≡◌, ◌≢◌, ◌∙◌, ℕ, ◌+◌, Bool, true, false, ◌&&◌, ◌||◌, not, if◌then◌else◌, List, [], ◌∷◌, ◌++◌, length, take, drop, refl, sym, ap, subst, Option, Some, None}
use Rattle.std.specs.Prelude.{Ok, Err, ⊤, option_map}
use Rattle.std.proofs.Math.Bool.{and-false}
use Rattle.pp_lexer.specs.Items.{Lexeme}
use Rattle.pp_lexer.specs.Lexed.{Seen}
use Rattle.pp_lexer.specs.declared.lexer.item.Token.{Token as LexerToken}
use Rattle.pp_lexer.specs.declared.lexer.item.TokenValue.{TokenValue as LexerTokenValue}
use Rattle.pp_lexer.specs.declared.lexer.item.TokenValue.TheVariants.{Hash, NewLine, Ident as LexerIdent, Integer as LexerInteger, Float as LexerFloat, Punct as LexerPunct}
use Rattle.pp_lexer.specs.declared.rules.Rules.{Rules}
use Rattle.pp_model.specs.Acts.{facts_of}
use Rattle.pp_model.specs.Blocks.{Block, blocks_at, innermost, is_live}
use Rattle.pp_model.specs.Faults.{facts_past, is_shown, shown_length, fault_length}
use Rattle.pp_model.specs.Lines.{ends_line, line_length}
use Rattle.pp_model.specs.Moves.{BlockFacts, failing, passing, move_at}
use Rattle.pp_model.specs.Sights.{sight_of, is_directive_hash}
use Rattle.pp_model.specs.SourceReader.{SourceReader, suspended_of}
use Rattle.pp_model.specs.declared.sight.Sight.{Sight}
use Rattle.pp_model.specs.declared.sight.Sight.TheVariants as sight
use Rattle.pp_directives.specs.inner.Lined.{AreLined, AreEnded, ShowsError, ShowErrors}
use Rattle.pp_macros.proofs.work.QuietLemmas.{take_more}
use Rattle.pp_macros.specs.inner.Faults.{takes_line, fault_taken}
use Rattle.pp_macros.specs.inner.OpenBlocks.{last_block, kept_facts, facts_among, is_live_among}
use Rattle.pp_macros.specs.inner.Source.{SuspendedText}
use Rattle.pp_macros.specs.declared.blocks.OpenBlock.{OpenBlock}
use Rattle.pp_rs.specs.inner.StandsPast.{dead_count}
use Rattle.pp_rs.specs.inner.Stands.{StandsForText}
use Rattle.pp_rs.proofs.blocks.BlockStackLemmas.{innermost_last}
use Rattle.pp_rs.proofs.blocks.PastLemmas.{live_past, none_past_dead, last_past}
use Rattle.pp_rs.proofs.source.DirectiveBeforeLemmas.{hash_in_front}
use Rattle.pp_rs.proofs.source.FaultLeftLemmas.{BeginsLine}
use Rattle.pp_rs.proofs.source.JoinLemmas.{Follow, begins, goes_on, hash_begins}

-- what is in front may be a fault, in live or in dead text
abbrev pub CanFail : Rules → Bool → Sight → Type 0
CanFail rules live (sight.Fault fault) = (not live && rules.passes_dead_errors) ≡ false
CanFail rules live (sight.Hash location) = live ≡ true
CanFail rules live (sight.NoWord fault) = live ≡ true
CanFail rules live (sight.Directive directive word) = ⊤
CanFail rules live _ = ⊥

-- how many items of a line a fault takes
abbrev taken_of : Rules → Bool → Option BlockFacts → List Seen → ℕ
taken_of rules live facts line =
    if takes_line rules line then length line else shown_length (λ items. (move_at rules live facts (sight_of items) items).effect) line

-- the same of the line in front of these items
abbrev pub taken_at : Rules → Bool → Option BlockFacts → List Seen → ℕ
taken_at rules live facts rest = taken_of rules live facts (take (line_length rest) rest)

-- ---- an item within a line is taken alone

module _ (rules : Rules) (live : Bool) (facts : Option BlockFacts) (s : Seen) where
  one_taken : (tail : List Seen) → is_directive_hash s.item ≡ false → is_shown (move_at rules live facts (sight_of (s ∷ [])) (s ∷ [])).effect ≡ true
      → taken_of rules live facts (s ∷ tail) ≡ 1
  one_taken tail quiet shown =
      ap (λ found. if rules.passes_dead_errors && (found || false) then length (s ∷ tail)
      else shown_length (λ items. (move_at rules live facts (sight_of items) items).effect) (s ∷ tail)) quiet
      ∙ ap (λ takes. if takes then length (s ∷ tail) else shown_length (λ items. (move_at rules live facts (sight_of items) items).effect) (s ∷ tail))
      (and-false rules.passes_dead_errors)
      ∙ ap (λ found. if found then 1 else 1 + shown_length (λ more. (move_at rules live facts (sight_of (s ∷ more)) (s ∷ more)).effect) tail) shown

  one_at : (later : List Seen) → ends_line s.item ≡ false → is_directive_hash s.item ≡ false
      → is_shown (move_at rules live facts (sight_of (s ∷ [])) (s ∷ [])).effect ≡ true → taken_at rules live facts (s ∷ later) ≡ 1
  one_at later within quiet shown =
      ap (λ (last : Bool). taken_of rules live facts (take (if last then 1 else 1 + line_length later) (s ∷ later))) within
      ∙ ap (taken_of rules live facts) (take_more (line_length later) s later) ∙ one_taken (take (line_length later) later) quiet shown

-- a fault within a line is shown by its item, which doesn't end the line
record IsWithin (rules : Rules) (live : Bool) (facts : Option BlockFacts) (s : Seen) : Type 0 where
  goes : ends_line s.item ≡ false
  shows : is_shown (move_at rules live facts (sight_of (s ∷ [])) (s ∷ [])).effect ≡ true

module _ (rules : Rules) (facts : Option BlockFacts) (comments : Bool) (later : List Seen) where
  token_within : (live : Bool) (token : LexerToken) (value : LexerTokenValue) (at_start : Bool)
      → is_directive_hash (Ok (record token { value = value; start_of_line = at_start })) ≡ false
      → CanFail rules live (sight_of (record { item = Ok (record token { value = value; start_of_line = at_start }); had_comments = comments } ∷ later))
      → IsWithin rules live facts (record { item = Ok (record token { value = value; start_of_line = at_start }); had_comments = comments })
  token_within live token Hash true quiet can = cc
  token_within true token Hash false quiet can = record { goes = refl; shows = refl }
  token_within false token Hash false quiet can = cc
  token_within live token NewLine at_start quiet can = absurd can
  token_within live token (LexerIdent name) at_start quiet can = absurd can
  token_within live token (LexerInteger i) at_start quiet can = absurd can
  token_within live token (LexerFloat f) at_start quiet can = absurd can
  token_within live token (LexerPunct p) at_start quiet can = absurd can

  item_within : (live : Bool) (item : Lexeme) → is_directive_hash item ≡ false → ShowsError item
      → CanFail rules live (sight_of (record { item = item; had_comments = comments } ∷ later))
      → IsWithin rules live facts (record { item = item; had_comments = comments })
  item_within live (Ok token) quiet shown can = token_within live token token.value token.start_of_line quiet can
  item_within live (Err fault) quiet shown can = record {
    goes = refl;
    shows = ap (λ passed. is_shown (if passed then passing 1 else failing fault).effect) can ∙ shown;
  }

module _ (rules : Rules) (live : Bool) (facts : Option BlockFacts) (front : List Seen) (s : Seen) (later : List Seen)
    (lined : AreLined (front ++ s ∷ later)) (here : AreLined (s ∷ later)) (ended : AreEnded (s ∷ later)) (shown : ShowErrors (s ∷ later))
    (can : CanFail rules live (sight_of (s ∷ later))) where
  follow_by : (hash : Bool) → is_directive_hash s.item ≡ hash → Follow front (drop (taken_at rules live facts (s ∷ later)) (s ∷ later))
  follow_by true is = begins (hash_begins front s later lined is)
  follow_by false is =
      let w = item_within rules facts s.had_comments later live s.item is shown.0 can in
      subst (λ (count : ℕ). Follow front (drop count (s ∷ later))) (sym (one_at rules live facts s later w.goes is w.shows))
      (goes_on (here.0 w.goes) (ended.0 w.goes))

-- what is left after a fault can come after what was read
pub fault_follows : (rules : Rules) (live : Bool) (facts : Option BlockFacts) (front rest : List Seen) → AreLined (front ++ rest) → AreLined rest
    → AreEnded rest → ShowErrors rest → CanFail rules live (sight_of rest) → Follow front (drop (taken_at rules live facts rest) rest)
fault_follows rules live facts front [] lined here ended shown can = absurd can
fault_follows rules live facts front (s ∷ later) lined here ended shown can =
    follow_by rules live facts front s later lined here ended shown can (is_directive_hash s.item) refl

-- something is there
pub fault_there : (rules : Rules) (live : Bool) (rest : List Seen) → CanFail rules live (sight_of rest) → rest ≢ []
fault_there rules live [] can none = absurd can
fault_there rules live (s ∷ later) can none = cc

-- where a directive is in front, a line begins
directive_begins : (front : List Seen) (s : Seen) (later : List Seen) (shown : Sight) → sight_of (s ∷ later) ≡ shown → AreLined (front ++ s ∷ later)
    → BeginsLine shown front
directive_begins front s later (sight.Directive directive word) e lined =
    hash_begins front s later lined (hash_in_front s later (sight.Directive directive word) e refl)
directive_begins front s later _ e lined = tt

pub fault_begins : (front rest : List Seen) → rest ≢ [] → AreLined (front ++ rest) → BeginsLine (sight_of rest) front
fault_begins front [] some lined = absurd (some refl)
fault_begins front (s ∷ later) some lined = directive_begins front s later (sight_of (s ∷ later)) refl lined

-- ---- the fault of a reader and of the text as it is kept

module _ {kept : SuspendedText} (r : SourceReader) (s : StandsForText kept (suspended_of r)) where
  -- the text is live alike,
  pub live_kept : is_live r.items r.truths r.position ≡ is_live_among kept.dead_for_good kept.blocks
  live_kept = live_past r.items r.truths r.position kept.dead_for_good kept.blocks s.blocks

  facts_by : (last : Option OpenBlock) → last_block kept.blocks ≡ last → facts_past (dead_count kept.dead_for_good) r ≡ option_map kept_facts last
  facts_by None found =
      ap (λ (blocks : List Block). option_map (facts_of r) (innermost blocks))
      (none_past_dead r.items r.truths (dead_count kept.dead_for_good) kept.blocks (blocks_at r.items r.position) s.blocks found)
  facts_by (Some last) found =
      let i = last_past r.items r.truths (dead_count kept.dead_for_good) kept.blocks (blocks_at r.items r.position) s.blocks last found in
      let same : facts_of r i.block ≡ kept_facts last = rw (i.stands.live_around, i.stands.taken, i.stands.with_else) refl in
      ap (λ (blocks : List Block). option_map (facts_of r) (innermost blocks)) i.split
      ∙ ap (option_map (facts_of r)) (innermost_last i.before i.block) ∙ ap Some same

  -- the innermost block has the same facts,
  pub facts_kept : facts_past (dead_count kept.dead_for_good) r ≡ facts_among kept.blocks
  facts_kept = facts_by (last_block kept.blocks) refl

  -- and a fault takes as many items.
  pub taken_kept : fault_length (dead_count kept.dead_for_good) r ≡ fault_taken r.rules kept.dead_for_good kept.blocks kept.rest
  taken_kept =
      ap (λ live. taken_at r.rules live (facts_past (dead_count kept.dead_for_good) r) (drop r.position r.items)) live_kept
      ∙ ap (λ facts. taken_at r.rules (is_live_among kept.dead_for_good kept.blocks) facts (drop r.position r.items)) facts_kept
      ∙ ap (taken_at r.rules (is_live_among kept.dead_for_good kept.blocks) (facts_among kept.blocks)) (sym s.rest)
