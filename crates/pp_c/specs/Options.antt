-- What the options of a call ask for.
use Rattle.std.specs.Prelude.{◌≡◌, ℕ, ◌<◌, ◌⊎◌, ◌-◌, ◌^◌, if◌then◌else◌, nat_eq, bit_and, Bool, Option, Some, None}
use Rattle.pp_rs.specs.Rules.{pp_rs, glsl, with_includes}
use Rattle.pp_rs.specs.declared.rules.Profile.TheVariants.{Core, Compatibility, Es}
use Rattle.pp_rs.specs.declared.rules.Rules.{Rules}
use Rattle.pp_c.specs.declared.options.Options.{Options}

-- options that this library knows
pub record AreOptions (options : Options) : Type 0 where
  pub size : options.size ≡ 32
  pub rules : options.rules < 4

-- the rules with a number: GLSL's for a version and a profile, or pp-rs's
abbrev pub rules_numbered : ℕ → ℕ → Rules
rules_numbered number version =
    if nat_eq number 1 then glsl version Core
    else if nat_eq number 2 then glsl version Compatibility
    else if nat_eq number 3 then glsl version Es
    else pp_rs

-- the rules by which a source and the contents of definitions are read
abbrev pub rules_in : Options → Rules
rules_in options = rules_numbered options.rules options.version

-- a count, of which 0 stands for none
abbrev pub unless_zero : ℕ → Option ℕ
unless_zero count = if nat_eq count 0 then None else Some count

-- after how many items a call stops, if not at the end
abbrev pub most_in : Options → Option ℕ
most_in options = unless_zero options.most_items

-- the same rules, by which an `#include` line is asked for its text
abbrev pub asking_rules_in : Options → Rules
asking_rules_in options = with_includes (rules_in options)

-- a count, of which 0 stands for the greatest number of 64 bits
abbrev pub all_unless_zero : ℕ → ℕ
all_unless_zero count = if nat_eq count 0 then 2 ^ 64 - 1 else count

-- after how many items a call that asks for texts stops
abbrev pub most_asking_in : Options → ℕ
most_asking_in options = all_unless_zero options.most_items

-- the flags of a stream ask `#include` lines for their texts
abbrev pub asks_texts : ℕ → Bool
asks_texts flags = nat_eq (bit_and flags 1) 1

-- the flags of a stream or of a text say that the source or the text is UTF-8
abbrev pub says_text : ℕ → Bool
says_text flags = nat_eq (bit_and flags 2) 2

-- options and flags of a stream that this library knows
pub record AreStreamOptions (options : Options) (flags : ℕ) : Type 0 where
  pub known : AreOptions options
  pub no_number : options.most_items ≡ 0
  pub flags_known : flags < 4

-- flags of a text that this library knows
abbrev pub AreTextFlags : ℕ → Type 0
AreTextFlags flags = (flags ≡ 0) ⊎ (flags ≡ 2)

-- the rules by which a stream reads its source and texts and the contents of definitions
abbrev pub stream_rules : Options → ℕ → Rules
stream_rules options flags = if asks_texts flags then asking_rules_in options else rules_in options
