-- The tokens that a run gives can be spelled, and the text that spells them gives them again.
use Rattle.std.proofs.Common.{◌≡◌, ◌⊎◌, inl, inr, ℕ, pos, ◌<◌, ◌^◌, ◌-◌, Bool, true, false, List, [], ◌∷◌, ◌++◌, length, map, refl, sym, subst, Option, Some, None, arith}
use Rattle.std.specs.Prelude.{IfOk, MatchBool, Result, Ok, Err, All, ◌+◌}
use Rattle.std.specs.List.{AllByRecursion as Each, cons_option}
use Rattle.std.specs.Str.{encode_utf8_all, chars}
use Rattle.std.proofs.lemmas.List.Elements.{All-head, All-tail, All-nil, All-cons}
use Rattle.pp_lexer.specs.ItemLaws.{HasLineWithin}
use Rattle.pp_lexer.specs.Items.{Lexeme, Item, items_by as lexed_items}
use Rattle.pp_lexer.specs.Lexed.{Seen, seen}
use Rattle.pp_lexer.specs.Respelling.{IsSpellableBy, IsSpelled, lexer_value, item_value, ending}
use Rattle.pp_lexer.specs.Spelling.{spelled_text, values_of}
use Rattle.pp_lexer.specs.Spots.{spots_of}
use Rattle.pp_lexer.specs.TokenValue.{is_ordinary}
use Rattle.pp_lexer.specs.declared.token.Location.{Location}
use Rattle.pp_lexer.specs.declared.lexer.item.Token.{Token as LexerToken}
use Rattle.pp_lexer.specs.declared.lexer.item.TokenValue.{TokenValue as LexerTokenValue}
use Rattle.pp_lexer.specs.declared.lexer.item.TokenValue.TheVariants.{Hash, NewLine, Punct as LexerPunct}
use Rattle.pp_lexer.specs.declared.token.Integer.{Integer as IntegerLiteral}
use Rattle.pp_lexer.specs.declared.token.Token.{Token}
use Rattle.pp_lexer.specs.declared.token.TokenValue.{TokenValue}
use Rattle.pp_lexer.specs.declared.token.TokenValue.TheVariants.{Integer, Version, Extension, Pragma}
use Rattle.pp_lexer.proofs.spelling.RespellingLemmas.{read_back}
use Rattle.pp_lexer.proofs.spelling.SpelledValuesLemmas.{values_spelled}
use Rattle.pp_lexer.proofs.items.TokenLinesLemmas.{tokens_have_lines}
use Rattle.pp_lexer.specs.declared.rules.Rules.{Rules}
use Rattle.pp_model.specs.Places.{PlacedFault, Fault}
use Rattle.pp_model.specs.Names.{is_identifier, line_name}
use Rattle.pp_model.specs.Conversions.{is_hash}
use Rattle.pp_model.specs.Definitions.{object_like}
use Rattle.pp_model.specs.Emitting.{answers_at}
use Rattle.pp_model.proofs.taking.NumberingLemmas.{IsLineLiteral, short as short_literal}
use Rattle.pp_model.specs.Reading.{Expander}
use Rattle.pp_model.specs.Reads.{source_reading}
use Rattle.pp_model.specs.RespellLaws.{IsText, HasText, token_of, given_token, given_tokens, IsReadAfresh, RunsAreReadAfresh, calls_for, replies_with}
use Rattle.pp_model.specs.Run.{by_rules, Call, add_define, include, next, items_by, content_tokens, start_by, with_added, without_end, with_included, Runs, done, added, refused, included, too_deep, given, failed}
use Rattle.pp_model.specs.RunStates.{gives_line_name}
use Rattle.pp_model.specs.SourceReader.{SourceReader}
use Rattle.pp_model.specs.declared.call.Reply.{Reply}
use Rattle.pp_model.specs.declared.call.Reply.TheVariants as reply
use Rattle.pp_model.specs.declared.outcome.Outcome.{Outcome}
use Rattle.pp_model.specs.declared.outcome.Outcome.TheVariants as outcome
use Rattle.pp_model.specs.declared.read.Taken.{Taken}
use Rattle.pp_model.specs.declared.read.Taken.TheVariants as taken
use Rattle.pp_model.specs.Painting.{fault_item, item_of}
use Rattle.pp_model.proofs.holding.HoldingLemmas.{AreClosed, HoldsOfTaken, HoldsOfHeld}
use Rattle.pp_model.proofs.holding.KeptTokensLemmas.{ReaderKeeps, HoldsOf, item_keeps, answers_keep}
use Rattle.pp_model.proofs.holding.LineHoldsLemmas.{HoldsOfLexeme, HoldInItems, content_holds}
use Rattle.pp_model.proofs.runs.RunStatesLemmas.{run_shows_no_line_name}
use Rattle.pp_model.proofs.holding.SourceHoldsLemmas.{HoldsOfOutcome, DirectiveItemsHold, HoldsOfReader, source_keeps, changed_holds}
use Rattle.pp_model.proofs.respelling.SpelledRunLemmas.{IsNoHash, IsPlain, starts_there, gives_from}

-- a line whose number can be spelled
abbrev IsLine : ℕ → Type 0
IsLine n = n < 2 ^ 64

-- a token that can be spelled, or holds a directive, on such a line
abbrev IsGood : Rules → Token → Type 0
IsGood rules token = (is_ordinary token.value ≡ true → IsSpellableBy rules token.value) × IsLine token.location.line

usual_width : (takes : Bool) → MatchBool takes ((pos 32 ≡ pos 32) ⊎ ((pos 32 ≡ pos 64) ⊎ (pos 32 ≡ pos 16))) (pos 32 ≡ pos 32)
usual_width true = inl refl
usual_width false = refl

-- the number of a line can be spelled
literal_spelled : (rules : Rules) (number : IntegerLiteral) → IsLineLiteral number → IsSpellableBy rules (Integer number)
literal_spelled rules number (short_literal signed n number1 low is) = rw is (omega (arith, low), usual_width rules.takes_widths)

good_closed : (rules : Rules) → AreClosed (IsGood rules) IsLine
good_closed rules = record { line = λ token q. q.1; number = λ place number l h. (λ o. literal_spelled rules number h, l) }

not_both : (b : Bool) → b ≡ false → b ≡ true → ⊥
not_both true e h = cc
not_both false e h = cc

good_directives : (rules : Rules) → DirectiveItemsHold (IsGood rules) IsLine (good_closed rules)
good_directives rules token other l = (λ o. absurd (not_both (is_ordinary token.value) other o), l)

-- each item of a text has a line within it
abbrev HasLines : List Seen → Type 0
HasLines items = Each (λ s. IfOk s.item (λ token. IsLine token.location.line)) items

module _ (rules : Rules) where
  good_value : (token : LexerToken) (value : LexerTokenValue) → IsSpelled rules (Ok value) → IsLine token.location.line
      → HoldsOfLexeme (IsGood rules) (Ok (record token { value = value }))
  good_value token Hash h l = tt
  good_value token NewLine h l = tt
  good_value token (LexerPunct p) h l = (λ o. tt, l)
  good_value token _ h l = (λ o. h, l)

  good_item : (item : Lexeme) → IsSpelled rules (item_value item) → IfOk item (λ token. IsLine token.location.line) → HoldsOfLexeme (IsGood rules) item
  good_item (Ok token) h l = good_value token token.value h l
  good_item (Err fault) h l = tt

  good_items : (items : List Seen) → All (IsSpelled rules) (map (λ s. item_value s.item) items) → HasLines items → HoldInItems (IsGood rules) items
  good_items [] all lines = tt
  good_items (s ∷ rest) all lines = (
    good_item s.item (All-head (IsSpelled rules) (item_value s.item) (map (λ t. item_value t.item) rest) all) lines.0,
    good_items rest (All-tail (IsSpelled rules) (item_value s.item) (map (λ t. item_value t.item) rest) all) lines.1,
  )

  fault_good : (fault : PlacedFault) (asks : Option Location) → HoldsOfOutcome (IsGood rules) (fault_item fault asks)
  fault_good fault (Some rest) = tt
  fault_good fault None = tt

  item_good : (x : Taken) → HoldsOfTaken (IsGood rules) x → HoldsOfOutcome (IsGood rules) (item_of x)
  item_good (taken.Token token) q = q
  item_good (taken.Fault fault) q = fault_good fault fault.1.asks
  item_good taken.End q = tt

  given_good : (o : Outcome) (later : List Token) → HoldsOfOutcome (IsGood rules) o → Each (IsGood rules) later
      → Each (IsGood rules) (cons_option (token_of o) later)
  given_good (outcome.Token token) later q all = (q, all)
  given_good _ later q all = all

lines_hold : (total : ℕ) (items : List Item) → total < 2 ^ 32 - 1 → All (λ i. HasLineWithin total i.item) items → HasLines (map seen items)
lines_hold total [] short all = tt
lines_hold total (i ∷ items) short all = (
  line_holds i.item (All-head (λ j. HasLineWithin total j.item) i items all),
  lines_hold total items short (All-tail (λ j. HasLineWithin total j.item) i items all),
)
  where
    line_holds : (item : Lexeme) → HasLineWithin total item → IfOk item (λ token. IsLine token.location.line)
    line_holds (Ok token) h = omega (arith, h.1, short)
    line_holds (Err fault) h = tt

lines : (rules : Rules) (text : List ℕ) → IsText text → HasLines (items_by rules text)
lines rules text t = lines_hold (length text) (lexed_items rules (spots_of text)) t.1 (tokens_have_lines rules text t.0)

-- so are the texts' tokens
module _ (level : ℕ) (rules : Rules) where
  abbrev K : SourceReader → Type 0
  K = HoldsOfReader (IsGood rules) IsLine (good_closed rules)

  text_good : (text : List ℕ) → IsText text → HoldInItems (IsGood rules) (items_by rules text)
  text_good text t = good_items rules (items_by rules text) (values_spelled rules text t.0) (lines rules text t)

  keeps : ReaderKeeps (IsGood rules) IsLine (source_reading (answers_at level)) K
  keeps = source_keeps (IsGood rules) IsLine (good_closed rules) (good_directives rules) (answers_at level)

  added_good : (content : List ℕ) (tokens : List Token) → IsText content → content_tokens (items_by rules content) ≡ Ok tokens → Each (IsGood rules) tokens
  added_good content tokens t e =
      subst (λ (r : Result (List Token) Fault). IfOk r (Each (IsGood rules))) e (content_holds (IsGood rules) (items_by rules content) (text_good content t))

  still_held : (held : Option Taken) → HoldsOfHeld (IsGood rules) held → HoldsOfHeld (IsGood rules) (without_end held)
  still_held (Some (taken.Token read)) h = h
  still_held (Some (taken.Fault fault)) h = h
  still_held (Some taken.End) h = tt
  still_held None h = h

  -- each token that a run gives is good
  given_are_good : (e : Expander SourceReader) (calls : List Call) (replies : List Reply) → Runs (by_rules (answers_at level)) rules e calls replies
      → All HasText calls → HoldsOf (IsGood rules) IsLine K e → Each (IsGood rules) (given_tokens replies)
  given_are_good e calls replies (done e1 r1 p) texts h = rw p tt
  given_are_good e calls replies (added name content tokens e1 more rest r1 is runs p) texts h =
      let body = added_good content tokens (All-head HasText (add_define name content) more texts) is in
      let after : HoldsOf (IsGood rules) IsLine K (with_added (chars name) tokens e) =
      record {
        held = h.held;
        list = h.list;
        reader = (
          h.reader.0,
          changed_holds (IsGood rules) IsLine (good_closed rules) e.reader.definitions (chars name) (Some (object_like (e.reader.contents + 1) tokens)) h.reader.1 body,
          h.reader.2,
        );
      } in
      rw p (given_are_good (with_added (chars name) tokens e) more rest runs (All-tail HasText (add_define name content) more texts) after)
  given_are_good e calls replies (refused name content fault e1 more rest r1 is runs p) texts h =
      rw p (given_are_good e more rest runs (All-tail HasText (add_define name content) more texts) h)
  given_are_good e calls replies (included text e1 more rest r1 is runs p) texts h =
      let after : HoldsOf (IsGood rules) IsLine K (with_included (items_by rules text) e) = record {
        held = still_held e.held h.held;
        list = h.list;
        reader = (text_good text (All-head HasText (include text) more texts), h.reader.1, (h.reader.0, h.reader.2));
      } in
      rw p (given_are_good (with_included (items_by rules text) e) more rest runs (All-tail HasText (include text) more texts) after)
  given_are_good e calls replies (too_deep text e1 more rest r1 is runs p) texts h =
      rw p (given_are_good e more rest runs (All-tail HasText (include text) more texts) h)
  given_are_good e calls replies (given o e1 f more rest r1 item is runs p) texts h =
      let after = item_keeps (IsGood rules) IsLine (good_closed rules) (source_reading (answers_at level)) K keeps (answers_at level)
      (answers_keep (IsGood rules) IsLine (good_closed rules) level) item.taken e f item.emits h in
      rw p
      (given_good rules o (given_tokens rest) (subst (HoldsOfOutcome (IsGood rules)) (sym item.is) (item_good rules item.taken after.0))
      (given_are_good f more rest runs (All-tail HasText next more texts) after.1))
  given_are_good e calls replies (failed fault e1 f more r1 item p) texts h = rw p tt

  run_is_good : (text : List ℕ) (calls : List Call) (replies : List Reply) → IsText text → All HasText calls
      → Runs (by_rules (answers_at level)) rules (start_by rules (items_by rules text)) calls replies → Each (IsGood rules) (given_tokens replies)
  run_is_good text calls replies t texts runs =
      given_are_good (start_by rules (items_by rules text)) calls replies runs texts
      (record { held = tt; list = tt; reader = (text_good text t, λ name definition defined. cc, tt) })

  -- no `__LINE__` is among the tokens that are given
  abbrev IsNoLine : Token → Type 0
  IsNoLine token = is_identifier line_name token.value ≡ false

  no_line_more : (answer : Reply) (later : List Token) → gives_line_name answer ≡ false → Each IsNoLine later
      → Each IsNoLine (cons_option (given_token answer) later)
  no_line_more (reply.Given (outcome.Token token)) later e all = (e, all)
  no_line_more _ later e all = all

  no_line_given : (replies : List Reply) → All (λ answer. gives_line_name answer ≡ false) replies → Each IsNoLine (given_tokens replies)
  no_line_given [] all = tt
  no_line_given (answer ∷ replies) all =
      no_line_more answer (given_tokens replies) (All-head (λ a. gives_line_name a ≡ false) answer replies all)
      (no_line_given replies (All-tail (λ a. gives_line_name a ≡ false) answer replies all))

  plain_values : (tokens : List Token) → Each (IsGood rules) tokens → Each IsNoLine tokens → All (λ token. is_ordinary token.value ≡ true) tokens
      → Each (IsPlain rules) (values_of tokens)
  plain_values [] good none plain = tt
  plain_values (token ∷ tokens) good none plain = (
    (good.0.0 (All-head (λ t. is_ordinary t.value ≡ true) token tokens plain), none.0),
    plain_values tokens good.1 none.1 (All-tail (λ t. is_ordinary t.value ≡ true) token tokens plain),
  )

  spellable : (values : List TokenValue) → Each (IsPlain rules) values → All (IsSpellableBy rules) values
  spellable [] all = All-nil (IsSpellableBy rules)
  spellable (value ∷ values) all = All-cons (IsSpellableBy rules) value values all.0.0 (spellable values all.1)

  no_hash_value : (value : TokenValue) → IsSpellableBy rules value → is_hash (lexer_value value) ≡ false
  no_hash_value (Version v) h = absurd h
  no_hash_value (Extension x) h = absurd h
  no_hash_value (Pragma p) h = absurd h
  no_hash_value _ h = refl

  no_hash_before : (values : List TokenValue) (last : List LexerTokenValue) → Each (IsPlain rules) values → Each (λ v. is_hash v ≡ false) last
      → Each (λ v. is_hash v ≡ false) (map lexer_value values ++ last)
  no_hash_before [] last all none = none
  no_hash_before (value ∷ values) last all none = (no_hash_value value all.0.0, no_hash_before values last all.1 none)

  ending_has_none : (values : List TokenValue) → Each (λ v. is_hash v ≡ false) (ending values)
  ending_has_none [] = tt
  ending_has_none (value ∷ values) = (refl, tt)

  no_hash_items : (items : List Seen) (values : List LexerTokenValue) → map (λ s. item_value s.item) items ≡ map Ok values
      → Each (λ v. is_hash v ≡ false) values → Each IsNoHash items
  no_hash_items [] values e none = tt
  no_hash_items (s ∷ rest) [] e none = cc
  no_hash_items (s ∷ rest) (value ∷ values) e none =
      let one : item_value s.item ≡ Ok value = cc in
      let more : map (λ t. item_value t.item) rest ≡ map Ok values = cc in
      ((value, one, none.0), no_hash_items rest values more none.1)

  ends_once : (values : List TokenValue) → (ending values ≡ []) ⊎ (ending values ≡ NewLine ∷ [])
  ends_once [] = inl refl
  ends_once (value ∷ values) = inr refl

  read_afresh : (values : List TokenValue) → Each (IsPlain rules) values → IsReadAfresh (answers_at level) rules values
  read_afresh values all =
      let items = items_by rules (encode_utf8_all (spelled_text values)) in
      let e : map (λ s. item_value s.item) items ≡ map Ok (map lexer_value values ++ ending values) = read_back rules values (spellable values all) in
      let none = no_hash_items items (map lexer_value values ++ ending values) e (no_hash_before values (ending values) all (ending_has_none values)) in
      let g = gives_from (answers_at level) rules items none values (ending values) 0 items refl e (ends_once values) all in
      record {
        tokens = g.tokens;
        same = g.same;
        run = subst (λ (x : Expander SourceReader). Runs (by_rules (answers_at level)) rules x (calls_for g.tokens) (replies_with g.tokens))
            (sym (starts_there rules items none)) g.run;
      }

-- The text that spells the plain tokens of a run gives their values again.
pub runs_read_afresh : (level : ℕ) → RunsAreReadAfresh (answers_at level)
runs_read_afresh level rules text calls replies t texts runs plain =
    read_afresh level rules (values_of (given_tokens replies))
    (plain_values level rules (given_tokens replies) (run_is_good level rules text calls replies t texts runs)
    (no_line_given level rules replies (run_shows_no_line_name (answers_at level) rules (items_by rules text) calls replies runs)) plain)
