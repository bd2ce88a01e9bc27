-- Why a call that uses a device, or reads the source from one, fails
use Rattle.std.specs.Prelude.{◌≡◌, ℕ, ◌-◌, ◌^◌, ◌<◌, ◌≤◌, ◌⊎◌, Bool, true, false, List, length, Option, IfSome, IsUtf8}
use Rattle.pp_print.specs.declared.ends.RunFault.{RunFault}
use Rattle.pp_print.specs.declared.ends.RunFault.TheVariants.{ReadFailed, TooLong, NotUtf8, BadWord, WriteFailed}
use Rattle.pp_print.specs.declared.ends.RunFault.TheVariants.{OutOfMemory}

-- a call that uses a device ends with the device's failure, or with a lack of memory while the device hasn't failed
abbrev pub IsDeviceFault : RunFault → RunFault → Bool → Type 0
IsDeviceFault failure fault failed = ((fault ≡ failure) × (failed ≡ true)) ⊎ ((fault ≡ OutOfMemory) × (failed ≡ false))

-- why a reader gave no source, by whether it has failed and by the bytes that it had left, if those are known
abbrev pub IsReadFault : RunFault → Bool → Option (List ℕ) → Type 0
IsReadFault ReadFailed failed known = failed ≡ true
IsReadFault TooLong failed known = (failed ≡ false) × IfSome known (λ bytes. 2 ^ 32 - 1 ≤ length bytes)
IsReadFault NotUtf8 failed known =
    (failed ≡ false) × IfSome known (λ bytes. (length bytes < 2 ^ 32 - 1) × ¬ (IsUtf8 bytes))
IsReadFault OutOfMemory failed known = failed ≡ false
IsReadFault BadWord failed known = ⊥
IsReadFault WriteFailed failed known = ⊥
