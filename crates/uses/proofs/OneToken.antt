-- The run of a source that is one identifier, step by step.
use Rattle.std.proofs.Common.{◌≡◌, ◌∙◌, ℕ, Bool, false, if◌then◌else◌, List, [], ◌∷◌, map, refl, ap, sym, subst, None, Some}
use Rattle.std.specs.Prelude.{Ok, unwrap_or}
use Rattle.pp_lexer.specs.Lexed.{Seen}
use Rattle.pp_lexer.specs.Rules.{pp_rs}
use Rattle.pp_lexer.specs.declared.lexer.item.Token.{Token as LexerToken}
use Rattle.pp_lexer.specs.declared.lexer.item.TokenValue.TheVariants.{Ident as LexerIdent, NewLine}
use Rattle.pp_lexer.specs.declared.token.Location.{Location}
use Rattle.pp_lexer.specs.declared.token.Token.{Token}
use Rattle.pp_lexer.specs.declared.token.TokenValue.TheVariants.{Ident}
use Rattle.pp_model.specs.Calls.{Answers}
use Rattle.pp_model.specs.Emitting.{Emits, itself}
use Rattle.pp_model.specs.Names.{Name, is_same_name, line_name}
use Rattle.pp_model.specs.Painting.{read_in}
use Rattle.pp_model.specs.Places.{in_text, source_text}
use Rattle.pp_model.specs.Reading.{Expander}
use Rattle.pp_model.specs.Reads.{Steps, Reads, here, later, source_reading}
use Rattle.pp_model.specs.Run.{by_rules, start, next, Runs, done, given, ends_run}
use Rattle.pp_model.specs.RunToEnd.{to_first_error}
use Rattle.pp_model.specs.SourceReader.{SourceReader, reader_at_start}
use Rattle.pp_model.specs.Numbering.{text_number}
use Rattle.pp_model.specs.Taking.{read, line_number, shown_token}
use Rattle.pp_model.specs.declared.call.Reply.{Reply}
use Rattle.pp_model.specs.declared.call.Reply.TheVariants.{Given}
use Rattle.pp_model.specs.declared.outcome.Outcome.TheVariants as outcome
use Rattle.pp_model.specs.declared.read.Taken.{Taken}
use Rattle.pp_model.specs.declared.read.Taken.TheVariants as taken

-- an identifier, and the newline after it
abbrev word_of : Name → Location → Bool → Bool → Seen → Seen
word_of name place blank first s = record s { item = Ok (record { value = LexerIdent name; location = place; leading_whitespace = blank; start_of_line = first }) }

abbrev newline_of : Location → Bool → Bool → Seen → Seen
newline_of place blank first s = record s { item = Ok (record { value = NewLine; location = place; leading_whitespace = blank; start_of_line = first }) }

abbrev token_of : Name → Location → Token
token_of name place = record { value = Ident name; location = place }

abbrev pub replies_of : Name → Location → List Reply
replies_of name place = Given (outcome.Token (token_of name place)) ∷ Given outcome.End ∷ []

module _ (A : Answers) (name : Name) (place after : Location) (b f c g : Bool) (s n : Seen) (other : is_same_name name line_name ≡ false) where
  abbrev items : List Seen
  items = word_of name place b f s ∷ newline_of after c g n ∷ []

  abbrev reader_at : ℕ → SourceReader
  reader_at position = record (reader_at_start pp_rs items) { position = position }

  abbrev state_at : ℕ → Expander SourceReader
  state_at position = record (start items) { reader = reader_at position }

  abbrev first : Taken
  first = taken.Token (read_in source_text (token_of name place))

  -- it isn't `__LINE__`, and so it is shown as it is
  shown : first ≡ shown_token (text_number (reader_at 1).rules (reader_at 1).line_offset) [] (read_in source_text (token_of name place))
  shown = ap (λ is_line. if is_line then line_number (in_text source_text place) (text_number (reader_at 1).rules (reader_at 1).line_offset (unwrap_or None place.line)) else first) (sym other)

  word_comes : Emits (source_reading A) A (state_at 0) first (state_at 1)
  word_comes =
      let step : Steps A (reader_at 0) (Some first) (reader_at 1) = (refl, refl) in
      itself first first _ _ (record { first = first; fetches = read first first (reader_at 1) _ _ refl refl (here first _ _ step) shown refl; paints = refl }) refl refl

  end_comes : Emits (source_reading A) A (state_at 1) taken.End (state_at 2)
  end_comes =
      let newline : Steps A (reader_at 1) None (reader_at 2) = (refl, refl) in
      let end : Steps A (reader_at 2) (Some taken.End) (reader_at 2) = (refl, refl) in
      let reads : Reads A (reader_at 1) taken.End (reader_at 2) = later taken.End _ (reader_at 2) _ newline (here taken.End _ _ end) in
      itself taken.End taken.End _ _ (record { first = taken.End; fetches = read taken.End taken.End (reader_at 2) _ _ refl refl reads refl refl; paints = refl }) refl refl

  runs : Runs (by_rules A) pp_rs (start items) (next ∷ next ∷ []) (replies_of name place)
  runs = given (outcome.Token (token_of name place)) _ (state_at 1) _ _ _ (record { taken = first; emits = word_comes; is = refl }) refl
      (given outcome.End _ (state_at 2) _ _ _ (record { taken = taken.End; emits = end_comes; is = refl }) refl (done _ [] refl) refl) refl

-- the same of items that are these
pub identifier_runs : (A : Answers) (items : List Seen) (word newline : LexerToken) (name : Name) → map (λ (s : Seen). s.item) items ≡ Ok word ∷ Ok newline ∷ []
    → word.value ≡ LexerIdent name → newline.value ≡ NewLine → is_same_name name line_name ≡ false
    → Runs (by_rules A) pp_rs (start items) (next ∷ next ∷ []) (replies_of name word.location)
identifier_runs A [] word newline name e w n other = cc
identifier_runs A (s ∷ []) word newline name e w n other = cc
identifier_runs A (s ∷ t ∷ u ∷ rest) word newline name e w n other = cc
identifier_runs A (s ∷ t ∷ []) word newline name e w n other =
    let this : s.item ≡ Ok word = cc in
    let that : t.item ≡ Ok newline = cc in
    let first : s ≡ word_of name word.location word.leading_whitespace word.start_of_line s =
    ap (λ i. record s { item = i }) this ∙ ap (λ v. record s { item = Ok (record word { value = v }) }) w in
    let second : t ≡ newline_of newline.location newline.leading_whitespace newline.start_of_line t =
    ap (λ i. record t { item = i }) that ∙ ap (λ v. record t { item = Ok (record newline { value = v }) }) n in
    let run = runs A name word.location newline.location word.leading_whitespace word.start_of_line newline.leading_whitespace newline.start_of_line s t other in
    let half = subst (λ x. Runs (by_rules A) pp_rs (start (x ∷ newline_of newline.location newline.leading_whitespace newline.start_of_line t ∷ [])) (next ∷ next ∷ []) (replies_of name word.location)) (sym first) run in
    subst (λ y. Runs (by_rules A) pp_rs (start (s ∷ y ∷ [])) (next ∷ next ∷ []) (replies_of name word.location)) (sym second) half

-- what comes first of replies that aren't cut behind it
rest_after : (one wanted : Reply) (rest left : List Reply) → ends_run wanted ≡ false → to_first_error (one ∷ rest) ≡ wanted ∷ left
    → (one ≡ wanted) × (to_first_error rest ≡ left)
rest_after one wanted rest left goes e =
    let same : one ≡ wanted = cc in
    let cut : (if ends_run one then [] else to_first_error rest) ≡ left = cc in
    (same, sym (ap (λ last. if last then [] else to_first_error rest) (ap ends_run same ∙ goes)) ∙ cut)

none_left : (replies : List Reply) → to_first_error replies ≡ [] → replies ≡ []
none_left [] e = refl
none_left (one ∷ rest) e = cc

-- these replies hold no error, so they are all
pub all_replies : (replies : List Reply) (name : Name) (place : Location) → to_first_error replies ≡ replies_of name place
    → replies ≡ replies_of name place
all_replies [] name place e = cc
all_replies (one ∷ []) name place e =
    let first = rest_after one (Given (outcome.Token (token_of name place))) [] (Given outcome.End ∷ []) refl e in
    let bad : ◌≡◌ {A = List Reply} [] (Given outcome.End ∷ []) = first.1 in
    cc
all_replies (one ∷ two ∷ rest) name place e =
    let first = rest_after one (Given (outcome.Token (token_of name place))) (two ∷ rest) (Given outcome.End ∷ []) refl e in
    let second = rest_after two (Given outcome.End) rest [] refl first.1 in
    rw (first.0, second.0, none_left rest second.1) refl
