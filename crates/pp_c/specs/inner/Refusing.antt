-- Why definitions aren't added. No contract of a public call cites this.
use Rattle.std.specs.Prelude.{◌≡◌, ◌≢◌, ◌<◌, ◌≤◌, ◌-◌, ◌^◌, ℕ, List, length, Option, Some, None, ⊤}
use Rattle.std.specs.Str.{IsUtf8}
use Rattle.pp_c.specs.declared.status.Refusal.{Refusal}
use Rattle.pp_c.specs.declared.status.Refusal.TheVariants.{NotUtf8, TooLong, BadDefinition, OutOfMemory, OverBudget}
use Rattle.pp_c.specs.declared.status.Refusal.TheVariants.{TooDeep}
use Rattle.pp_c.specs.declared.status.Shortage.{Shortage}
use Rattle.pp_c.specs.declared.status.Shortage.TheVariants.{Memory, Budget}

-- adding is refused for a content that is too long, for a definition outside of the words, or for a text inside of too
-- many others, and each has its cause; or because memory ran out
abbrev pub IsAddingRefusal : Refusal → Type 0 → Type 0 → Type 0 → Type 0
IsAddingRefusal NotUtf8 Long Outside Text = ⊥
IsAddingRefusal TooLong Long Outside Text = Long
IsAddingRefusal BadDefinition Long Outside Text = Outside
IsAddingRefusal OutOfMemory Long Outside Text = ⊤
IsAddingRefusal OverBudget Long Outside Text = ⊥
IsAddingRefusal TooDeep Long Outside Text = Text

-- the same, or because the steps of a budget were used up
abbrev pub IsRefusalWithin : Option ℕ → Refusal → Type 0 → Type 0 → Type 0 → Type 0
IsRefusalWithin budget OverBudget Long Outside Text = budget ≢ None
IsRefusalWithin budget refusal Long Outside Text = IsAddingRefusal refusal Long Outside Text

-- the refusal because this ran out
abbrev pub refusal_for : Shortage → Refusal
refusal_for Memory = OutOfMemory
refusal_for Budget = OverBudget

-- A call of a stream is refused since this ran out before; or since a text isn't UTF-8, is too long, or is inside of
-- too many others, and each has its cause. With texts that can be read it may also be refused since memory runs out.
abbrev pub IsCallRefusal : Option Shortage → Type 0 → Type 0 → Type 0 → Type 0 → Refusal → Type 0
IsCallRefusal (Some shortage) Garbled Long Deep Fits refusal = refusal ≡ refusal_for shortage
IsCallRefusal None Garbled Long Deep Fits NotUtf8 = Garbled
IsCallRefusal None Garbled Long Deep Fits TooLong = Long
IsCallRefusal None Garbled Long Deep Fits BadDefinition = ⊥
IsCallRefusal None Garbled Long Deep Fits OutOfMemory = Fits
IsCallRefusal None Garbled Long Deep Fits OverBudget = ⊥
IsCallRefusal None Garbled Long Deep Fits TooDeep = Deep

-- bytes are no text that the preprocessor reads, and why
abbrev pub IsNoText : List ℕ → Refusal → Type 0
IsNoText bytes NotUtf8 = (length bytes < 2 ^ 32 - 1) × ¬ (IsUtf8 bytes)
IsNoText bytes TooLong = 2 ^ 32 - 1 ≤ length bytes
IsNoText bytes refusal = ⊥

-- the number of the status that a refusal is
abbrev pub refusal_number : Refusal → ℕ
refusal_number NotUtf8 = 2
refusal_number TooLong = 3
refusal_number BadDefinition = 4
refusal_number OutOfMemory = 5
refusal_number OverBudget = 6
refusal_number TooDeep = 10
