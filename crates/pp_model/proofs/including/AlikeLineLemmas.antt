-- Alike lines have alike words at every level, and so alike values.
use Rattle.std.proofs.Common.{◌≡◌, ℕ, Bool, true, false, List, [], ◌∷◌, map, refl, sym, ap, Option, Some, None, if◌then◌else◌}
use Rattle.std.specs.Prelude.{Result, Ok, Err, MatchOption, is_some, not, pos}
use Rattle.pp_expression.specs.Arithmetic.{is_zero}
use Rattle.pp_lexer.specs.declared.token.PreprocessorError.TheVariants.{UnexpectedToken}
use Rattle.pp_lexer.specs.declared.token.Token.{Token}
use Rattle.pp_lexer.specs.declared.token.TokenValue.{TokenValue}
use Rattle.pp_lexer.specs.declared.token.TokenValue.TheVariants.{Ident}
use Rattle.pp_model.specs.Calls.{Answers, is_right_paren, paren_at}
use Rattle.pp_model.specs.Definitions.{Definition, Definitions}
use Rattle.pp_model.specs.Emitting.{Emits, answers_at}
use Rattle.pp_model.specs.ItemCall.{item_call}
use Rattle.pp_model.specs.LineValues.{IsCondition, IsLineNumber}
use Rattle.pp_model.specs.LineWords.{WordReading, operator, word, fault, unexpected, unknown_name, reading_of_value, reading, unwanted_part, unwanted_reading, unwanted_closing, name_in_value, name_in, has_value, is_defined, closed_by, IsUnwanted, InParentheses, Operand, Words, word_before, word_of, LineWords, ended, failed, refused, plain, answered, faulty}
use Rattle.pp_model.specs.Names.{Name, is_same_name, defined_name}
use Rattle.pp_model.specs.Painting.{read_in}
use Rattle.pp_model.specs.Places.{PlacedFault, place_of, place_in, fault_in}
use Rattle.pp_model.specs.Reading.{Expander, Listed, line_reading}
use Rattle.pp_model.specs.SpliceList.{outermost_call}
use Rattle.pp_model.specs.Taking.{Takes}
use Rattle.pp_model.specs.declared.numbering.Numbering.{Numbering}
use Rattle.pp_model.specs.declared.place.Place.{Place}
use Rattle.pp_model.specs.declared.read.Read.{Read}
use Rattle.pp_model.specs.declared.read.Taken.{Taken}
use Rattle.pp_model.specs.declared.read.Taken.TheVariants as taken
use Rattle.pp_model.specs.declared.splice.CallPlace.{CallPlace}
use Rattle.pp_model.specs.declared.word.LineKind.{LineKind}
use Rattle.pp_model.specs.declared.word.LineKind.TheVariants.{Condition, LineNumber}
use Rattle.pp_model.specs.declared.word.Word.TheVariants.{Defined}
use Rattle.pp_model.specs.inner.Alike.{Both, AlikeRead, AlikePlace, AlikeFault, AlikeTaken, AlikeDefinition, AlikeDefinitions, AlikeResult, AlikeExpander}
use Rattle.pp_model.proofs.holding.HoldingLemmas.{number_at}
use Rattle.pp_model.proofs.including.AlikeListLemmas.{of_token, of_fault, of_end, place_in_alike, fault_in_alike, place_of_alike, paren_alike, read_in_alike}
use Rattle.pp_model.proofs.including.AlikeTakingLemmas.{of_ok, of_err, AnswersAlike, takes_alike, emits_alike}
use Rattle.pp_model.proofs.including.AlikeLevelLemmas.{AlikeListed, listed_follows, alike_start, answers_alike}
use Rattle.pp_model.proofs.including.AlikeWordLemmas.{AlikeWord, AlikeWords, is_alone_alike, numbers_alike}

-- ---- what a token of a line is

abbrev AlikeReading : WordReading → WordReading → Type 0
AlikeReading operator operator = Unit {0}
AlikeReading (word x) (word y) = AlikeRead x y
AlikeReading (fault x) (fault y) = AlikeFault x y
AlikeReading _ _ = ⊥

unexpected_alike : (x y : Read) → AlikeRead x y → AlikeFault (unexpected x) (unexpected y)
unexpected_alike x y a = (ap (λ t. UnexpectedToken t.value) a.0, place_of_alike x y a)

unknown_alike : (kind : LineKind) (x y : Read) → AlikeRead x y → AlikeReading (unknown_name kind x) (unknown_name kind y)
unknown_alike Condition x y a = (ap (λ t. number_at t.location (record { value = 0; signed = true; width = pos 64 })) a.0, a.1)
unknown_alike LineNumber x y a = unexpected_alike x y a

reading_if_alike : (b : Bool) (x y : WordReading) → AlikeReading x y
    → AlikeReading (if b then operator else x) (if b then operator else y)
reading_if_alike true x y a = tt
reading_if_alike false x y a = a

reading_of_alike : (kind : LineKind) (x y : Read) (v : TokenValue) → AlikeRead x y → AlikeReading (reading_of_value kind x v) (reading_of_value kind y v)
reading_of_alike kind x y (Ident name) a =
    reading_if_alike (is_same_name name defined_name) (unknown_name kind x) (unknown_name kind y) (unknown_alike kind x y a)
reading_of_alike kind x y _ a = a

reading_alike : (kind : LineKind) (x y : Read) → AlikeRead x y → AlikeReading (reading kind x) (reading kind y)
reading_alike kind x y a = of_value x.token.value (ap (λ t. t.value) a.0)
  where
    of_value : (v : TokenValue) → v ≡ y.token.value → AlikeReading (reading_of_value kind x v) (reading_of_value kind y y.token.value)
    of_value v same = rw same (reading_of_alike kind x y y.token.value a)

of_operator : (x y : WordReading) → AlikeReading x y → x ≡ operator → y ≡ operator
of_operator operator operator a e = refl
of_operator (word x) y a e = cc
of_operator (fault x) y a e = cc
of_operator operator _ a e = absurd a

of_word : (x y : WordReading) (r : Read) → AlikeReading x y → x ≡ word r → (s : Read) × (y ≡ word s) × AlikeRead r s
of_word (word x) (word y) r a e =
    let same : x ≡ r = cc in
    (y, refl, rw same at a)
of_word operator y r a e = cc
of_word (fault x) y r a e = cc
of_word _ _ r a e = absurd a

of_reading_fault : (x y : WordReading) (f : PlacedFault) → AlikeReading x y → x ≡ fault f → (g : PlacedFault) × (y ≡ fault g) × AlikeFault f g
of_reading_fault (fault x) (fault y) f a e =
    let same : x ≡ f = cc in
    (y, refl, rw same at a)
of_reading_fault operator y f a e = cc
of_reading_fault (word x) y f a e = cc
of_reading_fault _ _ f a e = absurd a

-- ---- the parts of a `defined`

unwanted_reading_alike : (x y : Read) (r s : WordReading) → AlikeRead x y → AlikeReading r s → AlikeFault (unwanted_reading x r) (unwanted_reading y s)
unwanted_reading_alike x y operator operator a b = unexpected_alike x y a
unwanted_reading_alike x y (word r) (word s) a b = unexpected_alike r s b
unwanted_reading_alike x y (fault f) (fault g) a b = b
unwanted_reading_alike x y _ _ a b = absurd b

name_alike : (x y : Taken) → AlikeTaken x y → name_in x ≡ name_in y
name_alike (taken.Token x) (taken.Token y) a = ap (λ t. name_in_value t.value) a.0
name_alike (taken.Fault x) (taken.Fault y) a = refl
name_alike taken.End taken.End a = refl
name_alike _ _ a = absurd a

closes_alike : (x y : Taken) → AlikeTaken x y → has_value is_right_paren x ≡ has_value is_right_paren y
closes_alike (taken.Token x) (taken.Token y) a = ap (λ t. is_right_paren t.value) a.0
closes_alike (taken.Fault x) (taken.Fault y) a = refl
closes_alike taken.End taken.End a = refl
closes_alike _ _ a = absurd a

both_some_alike : (d f : Option Definition) → Both AlikeDefinition d f → is_some d ≡ is_some f
both_some_alike None None b = refl
both_some_alike (Some d) (Some f) b = refl
both_some_alike _ _ b = absurd b

answer_if_alike : (b c : Bool) → b ≡ c → (answer here : Bool) → answer ≡ here → (f g : PlacedFault) → AlikeFault f g
    → AlikeResult (λ x y. x ≡ y) (if b then Ok answer else Err f) (if c then Ok here else Err g)
answer_if_alike true true e answer here h f g a = h
answer_if_alike false false e answer here h f g a = a
answer_if_alike true false e answer here h f g a = cc
answer_if_alike false true e answer here h f g a = cc

-- ---- the words of a line

module _ (kind : LineKind) (directive there : Place) (at : AlikePlace directive there) where
  unwanted_part_alike : (x y : Taken) → AlikeTaken x y → AlikeFault (unwanted_part directive x) (unwanted_part there y)
  unwanted_part_alike (taken.Token x) (taken.Token y) a = unexpected_alike x y a
  unwanted_part_alike (taken.Fault x) (taken.Fault y) a = a
  unwanted_part_alike taken.End taken.End a = (refl, at)
  unwanted_part_alike _ _ a = absurd a

  unwanted_closing_alike : (x y : Taken) → AlikeTaken x y → AlikeFault (unwanted_closing kind directive x) (unwanted_closing kind there y)
  unwanted_closing_alike (taken.Token x) (taken.Token y) a = unwanted_reading_alike x y (reading kind x) (reading kind y) a (reading_alike kind x y a)
  unwanted_closing_alike (taken.Fault x) (taken.Fault y) a = a
  unwanted_closing_alike taken.End taken.End a = (refl, at)
  unwanted_closing_alike _ _ a = absurd a

  closed_alike : (answer here : Bool) (c d : Option CallPlace) (x y : Taken) → answer ≡ here → AlikeTaken x y
      → AlikeResult (λ b c. b ≡ c) (closed_by kind directive answer c x) (closed_by kind there here d y)
  closed_alike answer here c d x y h a =
      answer_if_alike (has_value is_right_paren x) (has_value is_right_paren y) (closes_alike x y a) answer here h
      (fault_in c (unwanted_closing kind directive x)) (fault_in d (unwanted_closing kind there y))
      (fault_in_alike c d (unwanted_closing kind directive x) (unwanted_closing kind there y) (unwanted_closing_alike x y a))

  abbrev Like : Expander Listed → Expander Listed → Type 0
  Like e f = AlikeExpander AlikeListed e f

  defined_alike : (e f : Expander Listed) (n : Name) → Like e f → is_defined e n ≡ is_defined f n
  defined_alike e f n a = both_some_alike (e.reader.visible n) (f.reader.visible n) (a.reader.visible n)

  unwanted_taken_alike : (x y : Taken) (e f : Expander Listed) → AlikeTaken x y
      → AlikeFault (fault_in (outermost_call e.list) (unwanted_part directive x)) (fault_in (outermost_call f.list) (unwanted_part there y))
  unwanted_taken_alike x y e f a =
      fault_in_alike (outermost_call e.list) (outermost_call f.list) (unwanted_part directive x) (unwanted_part there y) (unwanted_part_alike x y a)

  line_takes_alike : (o : Taken) (e f u : Expander Listed) → Like e u → Takes line_reading e o f
      → (p : Taken) × (g : Expander Listed) × Takes line_reading u p g × AlikeTaken o p × Like f g
  line_takes_alike = takes_alike AlikeListed line_reading line_reading (listed_follows (λ name. is_same_name name defined_name))

  module _ (A : Answers) (answers : AnswersAlike A) where
    line_emits_alike : (e f : Expander Listed) (o : Taken) (u : Expander Listed) → Like e u → Emits line_reading A e o f
        → (p : Taken) × (g : Expander Listed) × Emits line_reading A u p g × AlikeTaken o p × Like f g
    line_emits_alike = emits_alike AlikeListed line_reading line_reading (listed_follows (λ name. is_same_name name defined_name)) A answers

    -- what is given in the place of something that is a result and leaves an expander
    abbrev Given : (Result Bool PlacedFault → Expander Listed → Type 0) → Result Bool PlacedFault → Expander Listed → Type 0
    Given P r g = (s : Result Bool PlacedFault) × (h : Expander Listed) × P s h × AlikeResult (λ b c. b ≡ c) r s × Like g h

    in_parentheses_alike : (e u : Expander Listed) (r : Result Bool PlacedFault) (g : Expander Listed) → Like e u → InParentheses kind directive A e r g
        → Given (InParentheses kind there A u) r g
    in_parentheses_alike e u r g a (o, f, takes, w) =
        let t = line_takes_alike o e f u a takes in
        named t.0 t.1 t.2 t.3 t.4 (name_in o) (sym (name_alike o t.0 t.3)) w
      where
        named : (p : Taken) (h : Expander Listed) → Takes line_reading u p h → AlikeTaken o p → Like f h → (n : Option Name) → name_in p ≡ n
            → MatchOption n (IsUnwanted directive o f r g)
            (λ n. (x : Taken) × (emits : Emits line_reading A f x g) × (r ≡ closed_by kind directive (is_defined g n) (item_call emits) x))
            → Given (InParentheses kind there A u) r g
        named p h t b like None e w =
            let out = Err (fault_in (outermost_call h.list) (unwanted_part there p)) in
            (out, h, (p, h, t, rw e (refl, refl)), rw w.0 (unwanted_taken_alike o p f h b), rw w.1 like)
        named p h t b like (Some n) e (x, emits, is) =
            let i = line_emits_alike f g x h like emits in
            let out = closed_by kind there (is_defined i.1 n) (item_call i.2) i.0 in (
              out,
              i.1,
              (p, h, t, rw e (i.0, i.2, refl)),
              rw is (closed_alike (is_defined g n) (is_defined i.1 n) (item_call emits) (item_call i.2) x i.0 (defined_alike g i.1 n i.4) i.3),
              i.4,
            )

    operand_alike : (e u : Expander Listed) (r : Result Bool PlacedFault) (g : Expander Listed) → Like e u → Operand kind directive A e r g
        → Given (Operand kind there A u) r g
    operand_alike e u r g a (o, f, takes, w) =
        let t = line_takes_alike o e f u a takes in
        opened t.0 t.1 t.2 t.3 t.4 (paren_at o) (paren_at t.0) refl (paren_alike o t.0 t.3) w
      where
        named : (p : Taken) (h : Expander Listed) → Takes line_reading u p h → AlikeTaken o p → Like f h → paren_at p ≡ None → (n : Option Name)
            → name_in p ≡ n → MatchOption n (IsUnwanted directive o f r g) (λ n. (r ≡ Ok (is_defined f n)) × (g ≡ f)) → Given (Operand kind there A u) r g
        named p h t b like no_paren None e w =
            let out = Err (fault_in (outermost_call h.list) (unwanted_part there p)) in
            (out, h, (p, h, t, rw (no_paren, e) (refl, refl)), rw w.0 (unwanted_taken_alike o p f h b), rw w.1 like)
        named p h t b like no_paren (Some n) e w =
            let out = Ok (is_defined h n) in
            (out, h, (p, h, t, rw (no_paren, e) (refl, refl)), rw w.0 (defined_alike f h n like), rw w.1 like)

        opened : (p : Taken) (h : Expander Listed) → Takes line_reading u p h → AlikeTaken o p → Like f h → (m n : Option Place) → paren_at p ≡ n
            → Both AlikePlace m n
            → MatchOption m (MatchOption (name_in o) (IsUnwanted directive o f r g) (λ n. (r ≡ Ok (is_defined f n)) × (g ≡ f)))
            (λ paren. InParentheses kind directive A f r g) → Given (Operand kind there A u) r g
        opened p h t b like None None e c w = named p h t b like e (name_in o) (sym (name_alike o p b)) w
        opened p h t b like (Some m) (Some n) e c w =
            let inside = in_parentheses_alike f h r g like w in
            (inside.0, inside.1, (p, h, t, rw e inside.2), inside.3, inside.4)
        opened p h t b like _ _ e c w = absurd c

    line_words_alike : (e u : Expander Listed) (ws : Words) → Like e u → LineWords kind directive A e ws
        → (vs : Words) × LineWords kind there A u vs × AlikeWords ws vs
    line_words_alike e u ws a (ended e1 f ws1 i s) =
        let t = line_emits_alike e f taken.End u a i in
        let k = of_end (λ y. Emits line_reading A u y t.1) t.0 t.3 t.2 in
        let vs : Words = record { words = []; ending = None } in
        (vs, ended u t.1 vs k refl, rw s (record { words = tt; ending = tt }))
    line_words_alike e u ws a (failed f e1 g ws1 i s) =
        let t = line_emits_alike e g (taken.Fault f) u a i in
        let k = of_fault (λ y. Emits line_reading A u y t.1) f t.0 t.3 t.2 in
        let vs : Words = record { words = []; ending = Some k.0 } in
        (vs, failed k.0 u t.1 vs k.1 refl, rw s (record { words = tt; ending = k.2 }))
    line_words_alike e u ws a (refused read f e1 g ws1 i r s) =
        let t = line_emits_alike e g (taken.Token read) u a i in
        let k = of_token (λ y. Emits line_reading A u y t.1) read t.0 t.3 t.2 in
        let here = of_reading_fault (reading kind read) (reading kind k.0) f (reading_alike kind read k.0 k.2) r in
        let vs : Words = record { words = []; ending = Some (fault_in (item_call k.1) here.0) } in (
          vs,
          refused k.0 here.0 u t.1 vs k.1 here.1 refl,
          rw s (record { words = tt; ending = fault_in_alike (item_call i) (item_call k.1) f here.0 here.2 }),
        )
    line_words_alike e u ws a (plain read w e1 g rest ws1 i r more s) =
        let t = line_emits_alike e g (taken.Token read) u a i in
        let k = of_token (λ y. Emits line_reading A u y t.1) read t.0 t.3 t.2 in
        let here = of_word (reading kind read) (reading kind k.0) w (reading_alike kind read k.0 k.2) r in
        let later = line_words_alike g t.1 rest t.4 more in
        let vs = word_before (word_of (item_call k.1) here.0) later.0 in
        let first : AlikeWord (word_of (item_call i) w) (word_of (item_call k.1) here.0) =
        (ap (λ t. t.value) here.2.0, place_in_alike (item_call i) (item_call k.1) (place_of w) (place_of here.0) (place_of_alike w here.0 here.2)) in
        (vs, plain k.0 here.0 u t.1 later.0 vs k.1 here.1 later.1 refl, rw s (record { words = (first, later.2.words); ending = later.2.ending }))
    line_words_alike e u ws a (answered read answer e1 g h rest ws1 i r operand more s) =
        let t = line_emits_alike e g (taken.Token read) u a i in
        let k = of_token (λ y. Emits line_reading A u y t.1) read t.0 t.3 t.2 in
        let o = operand_alike g t.1 (Ok answer) h t.4 operand in
        let is = of_ok (λ b c. b ≡ c) (λ y. Operand kind there A t.1 y o.1) answer o.0 o.3 o.2 in
        let later = line_words_alike h o.1 rest o.4 more in
        let vs = word_before (Defined (place_in (item_call k.1) (place_of k.0)) (Ok is.0)) later.0 in
        let place = place_in_alike (item_call i) (item_call k.1) (place_of read) (place_of k.0) (place_of_alike read k.0 k.2) in (
          vs,
          answered k.0 is.0 u t.1 o.1 later.0 vs k.1 (of_operator (reading kind read) (reading kind k.0) (reading_alike kind read k.0 k.2) r) is.1 later.1 refl,
          rw s (record { words = ((place, is.2), later.2.words); ending = later.2.ending }),
        )
    line_words_alike e u ws a (faulty read f e1 g h ws1 i r operand s) =
        let t = line_emits_alike e g (taken.Token read) u a i in
        let k = of_token (λ y. Emits line_reading A u y t.1) read t.0 t.3 t.2 in
        let o = operand_alike g t.1 (Err f) h t.4 operand in
        let is = of_err (λ b c. b ≡ c) (λ y. Operand kind there A t.1 y o.1) f o.0 o.3 o.2 in
        let vs : Words = record { words = Defined (place_in (item_call k.1) (place_of k.0)) (Err is.0) ∷ []; ending = None } in
        let place = place_in_alike (item_call i) (item_call k.1) (place_of read) (place_of k.0) (place_of_alike read k.0 k.2) in (
          vs,
          faulty k.0 is.0 u t.1 o.1 vs k.1 (of_operator (reading kind read) (reading kind k.0) (reading_alike kind read k.0 k.2) r) is.1 refl,
          rw s (record { words = ((place, is.2), tt); ending = tt }),
        )

-- ---- conditions and line numbers

-- The condition of the same tokens at an alike place is alike.
pub alike_condition : (level : ℕ) (place there : Place) (tokens : List Token) (numbering : Numbering) (definitions seen : Definitions)
    (result : Result Bool PlacedFault) → AlikePlace place there → AlikeDefinitions definitions seen
    → IsCondition (answers_at level) place tokens numbering definitions result
    → (given : Result Bool PlacedFault) × IsCondition (answers_at level) there tokens numbering seen given × AlikeResult (λ x y. x ≡ y) result given
alike_condition level place there tokens numbering definitions seen result at visible c =
    let start =
    alike_start (map (read_in place.text) tokens) (map (read_in there.text) tokens) numbering numbering definitions seen []
    (read_in_alike place.text there.text tokens) refl visible in
    let words = line_words_alike Condition place there at (answers_at level) (answers_alike level) _ _ c.words start c.read in
    let value = is_alone_alike place there at c.words words.0 (λ v. not (is_zero v)) result words.2 c.value in
    (value.0, record { words = words.0; read = words.1; value = value.1 }, value.2)

-- The line number of the same tokens at an alike place is alike.
pub alike_line_number : (level : ℕ) (place there : Place) (tokens : List Token) (numbering : Numbering) (definitions seen : Definitions)
    (result : Result ℕ PlacedFault) → AlikePlace place there → AlikeDefinitions definitions seen
    → IsLineNumber (answers_at level) place tokens numbering definitions result
    → (given : Result ℕ PlacedFault) × IsLineNumber (answers_at level) there tokens numbering seen given × AlikeResult (λ x y. x ≡ y) result given
alike_line_number level place there tokens numbering definitions seen result at visible c =
    let start =
    alike_start (map (read_in place.text) tokens) (map (read_in there.text) tokens) numbering numbering definitions seen []
    (read_in_alike place.text there.text tokens) refl visible in
    let words = line_words_alike LineNumber place there at (answers_at level) (answers_alike level) _ _ c.words start c.read in
    let value = numbers_alike place there at c.words words.0 result words.2 c.numbers in
    (value.0, record { words = words.0; read = words.1; numbers = value.1 }, value.2)
