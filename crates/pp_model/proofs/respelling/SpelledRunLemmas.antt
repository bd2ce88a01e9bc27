-- The run of a text of ordinary tokens with a newline after them: it gives the tokens, and then the end.
use Rattle.std.proofs.Common.{◌≡◌, ◌∙◌, ◌⊎◌, inl, inr, ℕ, suc, pos, ◌+◌, Bool, true, false, ◌||◌, if◌then◌else◌, List, [], ◌∷◌, ◌++◌, length, take, drop, map, refl, ap, sym, subst, Option, Some, None, arith}
use Rattle.std.specs.Prelude.{Result, Ok, Err, unwrap_or}
use Rattle.std.specs.List.{AllByRecursion as Each, cons_option, list_all}
use Rattle.std.proofs.lemmas.List.{drop-drop}
use Rattle.pp_lexer.specs.Items.{Lexeme}
use Rattle.pp_lexer.specs.Lexed.{Seen}
use Rattle.pp_lexer.specs.Respelling.{IsSpellableBy, lexer_value, item_value}
use Rattle.pp_lexer.specs.Spelling.{values_of}
use Rattle.pp_lexer.specs.declared.lexer.item.Token.{Token as LexerToken}
use Rattle.pp_lexer.specs.declared.lexer.item.TokenValue.{TokenValue as LexerTokenValue}
use Rattle.pp_lexer.specs.declared.lexer.item.TokenValue.TheVariants.{Hash, NewLine}
use Rattle.pp_lexer.specs.declared.token.Location.{Location}
use Rattle.pp_lexer.specs.declared.token.PreprocessorError.{PreprocessorError}
use Rattle.pp_lexer.specs.declared.token.Token.{Token}
use Rattle.pp_lexer.specs.declared.token.TokenValue.{TokenValue}
use Rattle.pp_lexer.specs.declared.token.TokenValue.TheVariants.{Ident, Version, Extension, Pragma}
use Rattle.pp_lexer.specs.declared.rules.Rules.{Rules}
use Rattle.pp_model.specs.Places.{in_text, source_text}
use Rattle.pp_model.specs.Names.{is_identifier, line_name}
use Rattle.pp_model.specs.Conversions.{is_hash}
use Rattle.pp_model.specs.inner.Definitions.{nothing_defined}
use Rattle.pp_model.specs.Sights.{sight_of, token_sight}
use Rattle.pp_model.specs.inner.Sights.{item_sight}
use Rattle.pp_model.specs.Blocks.{line_at, block_lines, Block, open_blocks, blocks_at, innermost, is_live}
use Rattle.pp_model.specs.inner.Blocks.{is_branch_live}
use Rattle.pp_model.specs.SourceReader.{SourceReader}
use Rattle.pp_model.specs.Moves.{move_at}
use Rattle.pp_model.specs.Acts.{end_by, perform, facts_here, act}
use Rattle.pp_model.specs.Reading.{Expander, opening}
use Rattle.pp_model.specs.SpliceList.{outermost_line}
use Rattle.pp_model.specs.Taking.{line_number, Takes, read, shown_token, shown_outcome}
use Rattle.pp_model.specs.Calls.{Answers}
use Rattle.pp_model.specs.Emitting.{Emits, itself}
use Rattle.pp_model.specs.Reads.{Steps, Reads, here, later, source_reading}
use Rattle.pp_model.specs.Run.{by_rules, start_by, Runs, done, given}
use Rattle.pp_model.specs.RespellLaws.{calls_for, replies_with}
use Rattle.pp_model.specs.declared.call.Reply.TheVariants as reply
use Rattle.pp_model.specs.declared.outcome.Outcome.TheVariants as outcome
use Rattle.pp_model.specs.declared.read.Taken.{Taken}
use Rattle.pp_model.specs.declared.read.Taken.TheVariants as taken
use Rattle.pp_model.specs.Painting.{read_in, is_one_of, taken_among}
use Rattle.pp_model.specs.declared.sight.Sight.{Sight}
use Rattle.pp_model.specs.declared.sight.Sight.TheVariants as sight
use Rattle.pp_model.specs.declared.step.Step.TheVariants as step
use Rattle.pp_model.proofs.source.ReadsLemmas.{act_does}
use Rattle.pp_model.specs.Numbering.{text_number}
use Rattle.pp_lexer.specs.declared.token.Integer.{Integer}

-- the value of an item that is no number sign
abbrev pub IsNoHash : Seen → Type 0
IsNoHash s = (value : LexerTokenValue) × (item_value s.item ≡ Ok value) × (is_hash value ≡ false)

same_value : (token : LexerToken) (value : LexerTokenValue) → item_value (Ok token) ≡ Ok value → token.value ≡ value
same_value token value e = cc

quiet_value : (position : ℕ) (token : LexerToken) (value : LexerTokenValue) (rest : List Seen) → is_hash value ≡ false
    → line_at position (token_sight (record token { value = value }) rest) ≡ None
quiet_value position token Hash rest e = cc
quiet_value position token NewLine rest e = refl
quiet_value position token _ rest e = refl

quiet_item : (position : ℕ) (item : Lexeme) (rest : List Seen) (value : LexerTokenValue) → item_value item ≡ Ok value → is_hash value ≡ false
    → line_at position (item_sight item rest) ≡ None
quiet_item position (Ok token) rest value e none = quiet_value position token token.value rest (ap is_hash (same_value token value e) ∙ none)
quiet_item position (Err fault) rest value e none = refl

-- where no item is a number sign no line of a block stands
no_block_lines : (position : ℕ) (items : List Seen) → Each IsNoHash items → block_lines position items ≡ []
no_block_lines position [] all = refl
no_block_lines position (s ∷ rest) all =
    ap (λ line. cons_option line (block_lines (position + 1) rest)) (quiet_item position s.item rest all.0.0 all.0.1 all.0.2)
    ∙ no_block_lines (position + 1) rest all.1

front_holds : (n : ℕ) (items : List Seen) → Each IsNoHash items → Each IsNoHash (take n items)
front_holds (suc n) (s ∷ rest) all = (all.0, front_holds n rest all.1)
front_holds _ _ all = tt

no_blocks : (items : List Seen) (position : ℕ) → Each IsNoHash items → blocks_at items position ≡ []
no_blocks items position all = ap open_blocks (no_block_lines 0 (take position items) (front_holds position items all))

-- the reader of such a text, and the expander over it
abbrev reader_at : Rules → List Seen → ℕ → SourceReader
reader_at rules items position = record { rules = rules; text = source_text; items = items; position = position; definitions = nothing_defined; contents = 0; line_offset = pos 0; truths = []; unfinished = 0; around = []; earlier = record { text = false; directive = false } }

abbrev state_at : Rules → List Seen → ℕ → Expander SourceReader
state_at rules items position = record { held = None; list = []; reader = reader_at rules items position; hidden = [] }

pub starts_there : (rules : Rules) (items : List Seen) → Each IsNoHash items → start_by rules items ≡ state_at rules items 0
starts_there rules items all =
    ap (λ (n : ℕ). record { held = None; list = []; reader = record (reader_at rules items 0) { unfinished = n }; hidden = [] })
    (ap length (no_blocks items (length items) all))

-- a value that can be spelled by these rules, and is not `__LINE__`
abbrev pub IsPlain : Rules → TokenValue → Type 0
IsPlain rules value = IsSpellableBy rules value × (is_identifier line_name value ≡ false)

-- where no name is open nothing is painted
pub or_none : (b : Bool) (value : TokenValue) → (b || is_one_of [] value) ≡ b
or_none true value = refl
or_none false (Ident name) = refl
or_none false _ = refl

module _ (A : Answers) (rules : Rules) (items : List Seen) (all : Each IsNoHash items) where
  opens_nothing : (position : ℕ) (value : TokenValue) (location : Location)
      → opening (source_reading A) (state_at rules items position) (taken.Token (read_in source_text (record { value = value; location = location }))) ≡ None
  opens_nothing position (Ident name) location = refl
  opens_nothing position _ location = refl

  live_there : (position : ℕ) → is_live items [] position ≡ true
  live_there position = ap (list_all (is_branch_live [])) (no_blocks items position all)

  act_there : (position : ℕ) (shown : Sight) → sight_of (drop position items) ≡ shown
      → act (reader_at rules items position) ≡ perform (move_at rules true (facts_here (reader_at rules items position)) shown (drop position items)) (reader_at rules items position)
  act_there position shown e =
      let r = reader_at rules items position in
      ap (λ live. perform (move_at rules live (facts_here r) (sight_of (drop position items)) (drop position items)) r) (live_there position)
      ∙ ap (λ s. perform (move_at rules true (facts_here r) s (drop position items)) r) e

  -- what comes first of this text is taken, unpainted, where no name is open
  painted_none : (x : Taken) → taken_among [] x ≡ x
  painted_none (taken.Token token) = ap (λ b. taken.Token (record token { painted = b })) (or_none token.painted token.token.value)
  painted_none _ = refl

  taken_there : (position : ℕ) (x o : Taken) (after : ℕ) → Reads A (reader_at rules items position) x (reader_at rules items after)
      → o ≡ shown_outcome (text_number rules (reader_at rules items after).line_offset) x → Takes (source_reading A) (state_at rules items position) o (state_at rules items after)
  taken_there position x o after r is = record {
    first = o;
    fetches = read x o (reader_at rules items after) (state_at rules items position) (state_at rules items after) refl refl r is refl;
    paints = sym (painted_none o);
  }

  taken_plain : (shown : ℕ → Option Integer) (value : TokenValue) (location : Location) → is_identifier line_name value ≡ false
      → taken.Token (read_in source_text (record { value = value; location = location }))
      ≡ shown_token shown [] (read_in source_text (record { value = value; location = location }))
  taken_plain shown value location e =
      ap (λ b. if b then line_number (in_text source_text location) (shown (unwrap_or (outermost_line []) location.line)) else taken.Token
      (read_in source_text (record { value = value; location = location }))) (sym e)

  -- a token gives itself
  gives_token : (position : ℕ) (value : TokenValue) (location : Location)
      → sight_of (drop position items) ≡ sight.Token (record { value = value; location = location }) → is_identifier line_name value ≡ false
      → Emits (source_reading A) A (state_at rules items position) (taken.Token (read_in source_text (record { value = value; location = location })))
      (state_at rules items (position + 1))
  gives_token position value location e plain =
      let token : Token = record { value = value; location = location } in
      let a = act_there position (sight.Token token) e in
      let r = reader_at rules items position in
      let s : Steps A r (Some (taken.Token (read_in source_text token))) (reader_at rules items (position + 1)) =
      act_does A (step.Given (outcome.Token token)) (reader_at rules items (position + 1)) r (Some (taken.Token (read_in source_text token))) (reader_at rules items (position + 1)) a
      (refl, refl) in
      itself (taken.Token (read_in source_text token)) (taken.Token (read_in source_text token)) (state_at rules items position) (state_at rules items (position + 1))
      (taken_there position (taken.Token (read_in source_text token)) (taken.Token (read_in source_text token)) (position + 1)
      (here (taken.Token (read_in source_text token)) r (reader_at rules items (position + 1)) s)
      (taken_plain (text_number rules (reader_at rules items (position + 1)).line_offset) value location plain))
      (opens_nothing (position + 1) value location) refl

  ended_there : innermost (take 0 (blocks_at items (length items))) ≡ None
  ended_there = ap (λ (blocks : List Block). innermost (take 0 blocks)) (no_blocks items (length items) all)

  reads_end : (position : ℕ) → drop position items ≡ [] → Reads A (reader_at rules items position) taken.End (reader_at rules items position)
  reads_end position e =
      let r = reader_at rules items position in
      let a : act r ≡ record { step = step.Given outcome.End; after = r } = act_there position sight.End (ap sight_of e)
      ∙ ap (λ block. end_by block r) ended_there in
      here taken.End r r (act_does A (step.Given outcome.End) r r (Some taken.End) r a (refl, refl))

  -- after the last token a newline may stand
  reads_newline : (position : ℕ) → sight_of (drop position items) ≡ sight.NewLine → drop (position + 1) items ≡ []
      → Reads A (reader_at rules items position) taken.End (reader_at rules items (position + 1))
  reads_newline position e last =
      let r = reader_at rules items position in
      let a = act_there position sight.NewLine e in
      later taken.End r (reader_at rules items (position + 1)) (reader_at rules items (position + 1))
      (act_does A step.Passed (reader_at rules items (position + 1)) r None (reader_at rules items (position + 1)) a (refl, refl)) (reads_end (position + 1) last)

  gives_end : (position after : ℕ) → Reads A (reader_at rules items position) taken.End (reader_at rules items after)
      → Emits (source_reading A) A (state_at rules items position) taken.End (state_at rules items after)
  gives_end position after r = itself taken.End taken.End (state_at rules items position) (state_at rules items after)
      (taken_there position taken.End taken.End after r refl) refl refl

  -- from a position on the run gives these values
  pub record GivesFrom (position : ℕ) (values : List TokenValue) : Type 0 where
    pub tokens : List Token
    pub same : values_of tokens ≡ values
    pub run : Runs (by_rules A) rules (state_at rules items position) (calls_for tokens) (replies_with tokens)

  ends_run : (position after : ℕ) → Reads A (reader_at rules items position) taken.End (reader_at rules items after) → GivesFrom position []
  ends_run position after r = record {
    tokens = [];
    same = refl;
    run = given outcome.End (state_at rules items position) (state_at rules items after) [] [] (reply.Given outcome.End ∷ [])
        (record { taken = taken.End; emits = gives_end position after r; is = refl }) refl
        (done (state_at rules items after) [] refl) refl;
  }

  after_one : (position : ℕ) (s : Seen) (rest : List Seen) → drop position items ≡ s ∷ rest → drop (position + 1) items ≡ rest
  after_one position s rest e = ap (λ n. drop n items) (omega arith) ∙ sym (drop-drop 1 position items) ∙ ap (drop 1) e

  values_there : List Seen → List (Result LexerTokenValue PreprocessorError)
  values_there rest = map (λ s. item_value s.item) rest

  none_there : (rest : List Seen) → map (λ s. item_value s.item) rest ≡ [] → rest ≡ []
  none_there [] e = refl
  none_there (s ∷ rest) e = cc

  plain_value : (token : LexerToken) (rest : List Seen) (v : TokenValue) → IsSpellableBy rules v
      → token_sight (record token { value = lexer_value v }) rest ≡ sight.Token (record { value = v; location = token.location })
  plain_value token rest (Version v) h = absurd h
  plain_value token rest (Extension x) h = absurd h
  plain_value token rest (Pragma p) h = absurd h
  plain_value token rest _ h = refl

  abbrev ShowsToken : Lexeme → List Seen → TokenValue → Type 0
  ShowsToken item rest v = (location : Location) × (item_sight item rest ≡ sight.Token (record { value = v; location = location }))

  plain_item : (item : Lexeme) (rest : List Seen) (v : TokenValue) → item_value item ≡ Ok (lexer_value v) → IsSpellableBy rules v → ShowsToken item rest v
  plain_item (Ok token) rest v e h = (
    token.location,
    subst (λ (x : LexerTokenValue). token_sight (record token { value = x }) rest ≡ sight.Token (record { value = v; location = token.location }))
        (sym (same_value token (lexer_value v) e)) (plain_value token rest v h),
  )
  plain_item (Err fault) rest v e h = cc

  newline_item : (item : Lexeme) (rest : List Seen) → item_value item ≡ Ok NewLine → item_sight item rest ≡ sight.NewLine
  newline_item (Ok token) rest e =
      subst (λ (x : LexerTokenValue). token_sight (record token { value = x }) rest ≡ sight.NewLine) (sym (same_value token NewLine e)) refl
  newline_item (Err fault) rest e = cc

  newline_last : (position : ℕ) (rest : List Seen) → drop position items ≡ rest → map (λ s. item_value s.item) rest ≡ Ok NewLine ∷ [] → GivesFrom position []
  newline_last position [] e is = cc
  newline_last position (s ∷ rest) e is =
      let one : item_value s.item ≡ Ok NewLine = cc in
      let none : map (λ t. item_value t.item) rest ≡ [] = cc in
      ends_run position (position + 1) (reads_newline position (ap sight_of e ∙ newline_item s.item rest one)
      (after_one position s rest e ∙ none_there rest none))

  gives_first : (position : ℕ) (value : TokenValue) (values : List TokenValue) (location : Location)
      → sight_of (drop position items) ≡ sight.Token (record { value = value; location = location }) → is_identifier line_name value ≡ false
      → GivesFrom (position + 1) values → GivesFrom position (value ∷ values)
  gives_first position value values location e plain g =
      let token : Token = record { value = value; location = location } in
      record {
        tokens = token ∷ g.tokens;
        same = ap (λ later. value ∷ later) g.same;
        run = given (outcome.Token token) (state_at rules items position) (state_at rules items (position + 1)) (calls_for g.tokens) (replies_with g.tokens)
            (replies_with (token ∷ g.tokens))
            (record { taken = taken.Token (read_in source_text token); emits = gives_token position value location e plain; is = refl }) refl g.run refl;
      }

  -- such a text gives its values from each position on
  pub gives_from : (values : List TokenValue) (last : List LexerTokenValue) (position : ℕ) (rest : List Seen) → drop position items ≡ rest
      → map (λ s. item_value s.item) rest ≡ map Ok (map lexer_value values ++ last)
      → (last ≡ []) ⊎ (last ≡ NewLine ∷ []) → Each (IsPlain rules) values → GivesFrom position values
  gives_from [] last position rest e is (inl none) plain = ends_run position position (reads_end position (e ∙ none_there rest (is ∙ ap (map Ok) none)))
  gives_from [] last position rest e is (inr newline) plain = newline_last position rest e (is ∙ ap (map Ok) newline)
  gives_from (value ∷ values) last position [] e is end plain = cc
  gives_from (value ∷ values) last position (s ∷ rest) e is end plain =
      let one : item_value s.item ≡ Ok (lexer_value value) = cc in
      let more : map (λ t. item_value t.item) rest ≡ map Ok (map lexer_value values ++ last) = cc in
      let shown = plain_item s.item rest value one plain.0.0 in
      gives_first position value values shown.0 (ap sight_of e ∙ shown.1) plain.0.1
      (gives_from values last (position + 1) rest (after_one position s rest e) more end plain.1)
