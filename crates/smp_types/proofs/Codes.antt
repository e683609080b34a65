-- What is read of the codes is what was written, and what was read is written as the same octet. Assumes nothing.
use borrow.Author.Rules.{rules}
use mathlib.Core.Path.{◌≡◌}
use Prim.Native.Nat.{ℕ, ◌≤◌}
use Rattle.octets.specs.Answer.{accepted}
use Rattle.smp_types.specs.declared.capabilities.IoCapabilities.{IoCapabilities}
use Rattle.smp_types.specs.declared.types.UseOutOfBand.{UseOutOfBand}
use Rattle.smp_types.specs.declared.types.Command.{Command}
use Rattle.smp_types.specs.Capabilities.{io_code, io_of}
use Rattle.smp_types.specs.Types.{reason_code, reason_of, command_code, command_of, oob_code, oob_of}

-- ---- I/O capabilities

pub io_back : (io : IoCapabilities) → io_of (io_code io) ≡ accepted io
io_back io = search rules

pub io_same : (v : ℕ) (io : IoCapabilities) → io_of v ≡ accepted io → io_code io ≡ v
io_same v io e = search rules

-- ---- reasons

-- 0x01 to 0x10 are written again as they were read
pub reason_same : (v : ℕ) → 1 ≤ v → v ≤ 16 → reason_code (reason_of v) ≡ v
reason_same v a b = search rules

-- all else is written as an unspecified reason
pub reason_other : (v : ℕ) → (1 ≤ v → v ≤ 16 → ⊥) → reason_code (reason_of v) ≡ 8
reason_other v h = search rules

-- ---- commands

pub command_back : (c : Command) → command_of (command_code c) ≡ accepted c
command_back c = search rules

pub command_same : (v : ℕ) (c : Command) → command_of v ≡ accepted c → command_code c ≡ v
command_same v c e = search rules

-- ---- the OOB data flag

pub oob_back : (o : UseOutOfBand) → oob_of (oob_code o) ≡ accepted o
oob_back o = search rules

pub oob_same : (v : ℕ) (o : UseOutOfBand) → oob_of v ≡ accepted o → oob_code o ≡ v
oob_same v o e = search rules
