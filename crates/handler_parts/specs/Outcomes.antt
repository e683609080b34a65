-- Inner: words between the code's functions; the archive's contracts, demand 3 and the worked cases do not rest on it.
-- What a handler's code leaves and answers, as its program. Assumes nothing.
use Rattle.std.specs.Prelude.{Result, Ok, Err}
use Rattle.crypto.specs.declared.crypto.Nonce.{Nonce}
use Rattle.bond.specs.declared.Error.{Error}
use Rattle.host_calls.specs.declared.call.Trace.{Trace}
use Rattle.host_answers.specs.declared.Stop.{Stop}
use Rattle.machine.specs.declared.ConfirmPhaseData.{ConfirmPhaseData}
use Rattle.machine.specs.declared.Machine.{Machine}
use Rattle.machine.specs.declared.PairingData.{PairingData}
use Rattle.protocol.specs.Handlers.{Try, ok, err, with_nonce}
use Rattle.host_ops.specs.Run.{Ran, ended, stopped}
use Rattle.host_ops.specs.Asked.{on_halt}
use Rattle.host_ops.specs.declared.Halt.{Halt}
use Rattle.host_ops.specs.declared.Halt.TheVariants as halt

-- a handler without host calls: the machine that it leaves, or the Rust's Err with the pairing data by then
abbrev pub tried : Machine → Result (Unit {0}) Error → Try Machine
tried m (Ok x) = ok m
tried m (Err e) = err m.pairing_data e

-- a handler that goes no further, with the pairing data by then
abbrev pub halted : {A : Type 0} → Trace → PairingData → Halt → Ran (Try A)
halted t d h = on_halt t (λ e u. ended (err d e) u) h

-- a handler with host calls; what it leaves of the confirm data where it fails, and of all where it stops, is forgotten
abbrev pub ran_machine : Trace → Machine → Result (Unit {0}) Halt → Ran (Try Machine)
ran_machine t m (Ok x) = ended (ok m) t
ran_machine t m (Err h) = halted t m.pairing_data h

-- .. and all that it leaves where it goes no further: the machine given, with the pairing data by then where it fails
abbrev pub left_by : Machine → PairingData → Halt → Machine
left_by m d (halt.Failed e) = record { phase = m.phase; confirm_data = m.confirm_data; pairing_data = d }
left_by m d (halt.Stop e) = m

-- a part of a handler that gives a value, of these pairing data
abbrev pub ran_try : {A : Type 0} → Trace → PairingData → Result A Halt → Ran (Try A)
ran_try t d (Ok a) = ended (ok a) t
ran_try t d (Err h) = halted t d h

-- .. that leaves pairing data
abbrev pub ran_data : Trace → PairingData → Result (Unit {0}) Halt → Ran (Try PairingData)
ran_data t d (Ok x) = ended (ok d) t
ran_data t d (Err h) = halted t d h

-- .. that gives the nonce of these confirm data
abbrev pub ran_nonce : Trace → PairingData → ConfirmPhaseData → Result Nonce Halt → Ran (Try ConfirmPhaseData)
ran_nonce t d c (Ok n) = ended (ok (with_nonce c n)) t
ran_nonce t d c (Err h) = halted t d h

-- an input of a machine, or the entering of a state
abbrev pub ran_entered : Trace → Machine → Result (Unit {0}) Stop → Ran Machine
ran_entered t m (Ok x) = ended m t
ran_entered t m (Err e) = stopped e t
