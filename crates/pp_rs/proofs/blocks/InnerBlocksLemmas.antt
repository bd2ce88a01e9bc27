-- Whether a block is still open after later lines, which of these part it, and how many inner blocks are open then.
use Rattle.std.proofs.Common.{◌≡◌, ◌∙◌, ℕ, zero, suc, ◌+◌, ◌-◌, ◌≤◌, ◌<◌, Bool, true, false, ◌&&◌, not, if◌then◌else◌, List, [], ◌∷◌, ◌++◌, length, refl, ap, sym, ne_eqb, arith}
use Rattle.std.specs.Prelude.{◌==◌, Option, Some, None, option_map}
use Rattle.std.specs.List.{cons_option}
use Rattle.std.proofs.Math.Bool.{and_assoc}
use Rattle.pp_model.specs.Blocks.{opens, closes, partings_of, Block, open_blocks}
use Rattle.pp_model.specs.declared.block.BlockLine.{BlockLine}
use Rattle.pp_model.specs.declared.block.Part.{Part}
use Rattle.pp_model.specs.declared.block.Part.TheVariants as part

-- the line closes a block in which so many inner blocks are open
abbrev pub closes_block : Part → ℕ → Bool
closes_block part.Closes inner = inner == 0
closes_block _ inner = false

-- the inner blocks that are open after the line
abbrev pub inner_after : Part → ℕ → ℕ
inner_after part.Opens inner = inner + 1
inner_after part.Closes inner = inner - 1
inner_after _ inner = inner

-- the block is still open after these lines
abbrev pub stays_open : ℕ → List BlockLine → Bool
stays_open inner [] = true
stays_open inner (line ∷ later) = not (closes_block line.part inner) && stays_open (inner_after line.part inner) later

-- the line parts the block, and no inner one
abbrev pub parts_block : Part → ℕ → Bool
parts_block part.Elif inner = inner == 0
parts_block part.Else inner = inner == 0
parts_block _ inner = false

-- the lines that part the block
abbrev pub parting : ℕ → List BlockLine → List BlockLine
parting inner [] = []
parting inner (line ∷ later) =
    if parts_block line.part inner then line ∷ parting (inner_after line.part inner) later else parting (inner_after line.part inner) later

-- how many inner blocks are open after these lines
abbrev pub inner_after_lines : ℕ → List BlockLine → ℕ
inner_after_lines inner [] = inner
inner_after_lines inner (line ∷ later) = inner_after_lines (inner_after line.part inner) later

-- how many of these lines close a block that was opened before them
abbrev closing_with : Part → ℕ → ℕ
closing_with part.Opens closing = closing - 1
closing_with part.Closes closing = closing + 1
closing_with _ closing = closing

abbrev pub closing_outer : List BlockLine → ℕ
closing_outer [] = 0
closing_outer (line ∷ later) = closing_with line.part (closing_outer later)

-- a number with one more is not 0
pub is_not_zero : (n : ℕ) → suc n == 0 ≡ false
is_not_zero n = ne_eqb (suc n) 0 (λ e. absurd (omega (arith, e)))

parted_with : (p : Part) (line : BlockLine) (inner : ℕ) (rest : ℕ → Option (List BlockLine)) (stays : Bool) (marks : List BlockLine)
    → rest (inner_after p inner) ≡ (if stays then Some marks else None)
    → (if opens p then rest (inner + 1) else if closes p then (if inner == 0 then None else rest (inner - 1))
    else if inner == 0 then option_map (λ lines. line ∷ lines) (rest 0) else rest inner)
    ≡ (if not (closes_block p inner) && stays then Some (if parts_block p inner then line ∷ marks else marks) else None)
parted_with part.Opens line inner rest stays marks h = h
parted_with part.Closes line zero rest stays marks h = refl
parted_with part.Closes line (suc inner) rest stays marks h = rw (is_not_zero inner) h
parted_with _ line zero rest true marks h = ap (option_map (λ lines. line ∷ lines)) h
parted_with _ line zero rest false marks h = ap (option_map (λ lines. line ∷ lines)) h
parted_with _ line (suc inner) rest stays marks h = rw (is_not_zero inner) h

partings_are : (inner : ℕ) (lines : List BlockLine) → partings_of inner lines ≡ (if stays_open inner lines then Some (parting inner lines) else None)
partings_are inner [] = refl
partings_are inner (line ∷ later) =
    let next = inner_after line.part inner in
    parted_with line.part line inner (λ deeper. partings_of deeper later) (stays_open next later) (parting next later) (partings_are next later)

opened_with : (begins stays : Bool) (line : BlockLine) (marks : List BlockLine) (blocks : List Block)
    → cons_option (if begins then option_map (λ (partings : List BlockLine). let b : Block = record { first = line; partings = partings } in b)
    (if stays then Some marks else None) else None) blocks
    ≡ (if begins && stays then record { first = line; partings = marks } ∷ blocks else blocks)
opened_with true true line marks blocks = refl
opened_with _ _ line marks blocks = refl

-- the blocks that are open after a line and those after it
pub open_blocks_step : (line : BlockLine) (later : List BlockLine) → open_blocks (line ∷ later)
    ≡ (if opens line.part && stays_open 0 later then record { first = line; partings = parting 0 later } ∷ open_blocks later else open_blocks later)
open_blocks_step line later =
    ap (λ (found : Option (List BlockLine)). cons_option (if opens line.part then option_map (λ (partings : List BlockLine). let b : Block =
    record { first = line; partings = partings } in b) found else None) (open_blocks later)) (partings_are 0 later)
    ∙ opened_with (opens line.part) (stays_open 0 later) line (parting 0 later) (open_blocks later)

enough_with : (p : Part) (inner closing : ℕ) (later : Bool) → (later ≡ true → closing ≤ inner_after p inner)
    → not (closes_block p inner) && later ≡ true → closing_with p closing ≤ inner
enough_with part.Opens inner closing later h e = omega (arith, h e)
enough_with part.Closes zero closing later h e = cc
enough_with part.Closes (suc inner) closing later h e =
    let stays = rw (is_not_zero inner) at e in
    omega (arith, h stays)
enough_with _ inner closing later h e = h e

-- a block that stays open has as many inner ones as are closed
pub enough_inner : (inner : ℕ) (lines : List BlockLine) → stays_open inner lines ≡ true → closing_outer lines ≤ inner
enough_inner inner [] e = omega arith
enough_inner inner (line ∷ later) e =
    enough_with line.part inner (closing_outer later) (stays_open (inner_after line.part inner) later) (enough_inner (inner_after line.part inner) later) e

fewer_with : (p : Part) (inner closing : ℕ) (later : Bool) → (later ≡ false → inner_after p inner < closing)
    → not (closes_block p inner) && later ≡ false → inner < closing_with p closing
fewer_with part.Opens inner closing later h e = omega (arith, h e)
fewer_with part.Closes zero closing later h e = omega arith
fewer_with part.Closes (suc inner) closing later h e =
    let stays = rw (is_not_zero inner) at e in
    omega (arith, h stays)
fewer_with _ inner closing later h e = h e

-- a block that is closed has fewer
pub fewer_inner : (inner : ℕ) (lines : List BlockLine) → stays_open inner lines ≡ false → inner < closing_outer lines
fewer_inner inner [] e = cc
fewer_inner inner (line ∷ later) e =
    fewer_with line.part inner (closing_outer later) (stays_open (inner_after line.part inner) later) (fewer_inner (inner_after line.part inner) later) e

opened_counted : (stays : Bool) (first : Block) (blocks : List Block) (inner closing after : ℕ) → (stays ≡ true → closing ≤ 0) → (stays ≡ false → 0 < closing)
    → after + closing ≡ inner + 1 + length blocks → after + (closing - 1) ≡ inner + length (if stays then first ∷ blocks else blocks)
opened_counted true first blocks inner closing after few many e = omega (arith, few refl, e)
opened_counted false first blocks inner closing after few many e = omega (arith, many refl, e)

counted_with : (p : Part) (stays later : Bool) (first : Block) (blocks : List Block) (inner closing after : ℕ) → (stays ≡ true → closing ≤ 0)
    → (stays ≡ false → 0 < closing)
    → not (closes_block p inner) && later ≡ true → (later ≡ true → after + closing ≡ inner_after p inner + length blocks)
    → after + closing_with p closing ≡ inner + length (if opens p && stays then first ∷ blocks else blocks)
counted_with part.Opens stays later first blocks inner closing after few many e h = opened_counted stays first blocks inner closing after few many (h e)
counted_with part.Closes stays later first blocks zero closing after few many e h = cc
counted_with part.Closes stays later first blocks (suc inner) closing after few many e h =
    let open_later = rw (is_not_zero inner) at e in
    omega (arith, h open_later)
counted_with _ stays later first blocks inner closing after few many e h = h e

-- so many inner blocks are left, and those that these lines open
inner_counted : (inner : ℕ) (lines : List BlockLine) → stays_open inner lines ≡ true
    → inner_after_lines inner lines + closing_outer lines ≡ inner + length (open_blocks lines)
inner_counted inner [] e = refl
inner_counted inner (line ∷ later) e =
    counted_with line.part (stays_open 0 later) (stays_open (inner_after line.part inner) later)
    (record { first = line; partings = parting 0 later }) (open_blocks later) inner
    (closing_outer later) (inner_after_lines (inner_after line.part inner) later) (enough_inner 0 later) (fewer_inner 0 later) e
    (inner_counted (inner_after line.part inner) later) ∙ ap (λ (blocks : List Block). inner + length blocks) (sym (open_blocks_step line later))

-- in a block that stays open as many inner ones are open as its lines open
pub inner_open : (lines : List BlockLine) → stays_open 0 lines ≡ true → inner_after_lines 0 lines ≡ length (open_blocks lines)
inner_open lines e = omega (arith, inner_counted 0 lines e, enough_inner 0 lines e)

-- the block is still open after more lines
pub stays_open_append : (inner : ℕ) (lines more : List BlockLine)
    → stays_open inner (lines ++ more) ≡ stays_open inner lines && stays_open (inner_after_lines inner lines) more
stays_open_append inner [] more = refl
stays_open_append inner (line ∷ later) more =
    let stays = not (closes_block line.part inner) in
    let next = inner_after line.part inner in
    ap (λ b. stays && b) (stays_open_append next later more) ∙ sym (and_assoc stays (stays_open next later) (stays_open (inner_after_lines next later) more))

parting_with : (parts : Bool) (line : BlockLine) (marks more : List BlockLine)
    → (if parts then line ∷ (marks ++ more) else marks ++ more) ≡ (if parts then line ∷ marks else marks) ++ more
parting_with true line marks more = refl
parting_with false line marks more = refl

-- more lines part it too
pub parting_append : (inner : ℕ) (lines more : List BlockLine)
    → parting inner (lines ++ more) ≡ parting inner lines ++ parting (inner_after_lines inner lines) more
parting_append inner [] more = refl
parting_append inner (line ∷ later) more =
    let next = inner_after line.part inner in
    ap (λ (marks : List BlockLine). if parts_block line.part inner then line ∷ marks else marks) (parting_append next later more)
    ∙ parting_with (parts_block line.part inner) line (parting next later) (parting (inner_after_lines next later) more)
