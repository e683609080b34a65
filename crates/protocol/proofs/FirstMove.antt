-- Fresh machines are canonical, and the link moves: from every start the head may take the request, before its host has
-- answered anything, and then wants the answer to its first call. Assumes nothing.
use Rattle.std.specs.Prelude.{Some}
use mathlib.Core.Path.{◌≡◌, refl}
use mathlib.Core.List.{[], ◌∷◌}
use Rattle.host_answers.specs.Answers.{body_at, flag_at}
use Rattle.host_calls.specs.declared.call.Call.TheVariants as call
use Rattle.host_calls.specs.declared.call.Question.TheVariants as question
use Rattle.machine.specs.Machine.{new_machine}
use Rattle.machine.specs.declared.Role.TheVariants.{Central, Peripheral}
use Rattle.machine.proofs.Canonical.{Canonical, new_canonical, switch_canonical}
use Rattle.protocol.specs.LegacyPeripheral.{handle_pairing_request, transition, handle_input}
use Rattle.protocol.specs.Step.{play_of, step}
use Rattle.protocol.specs.FairLink.{Start, fresh_terminal, fresh_head, Shared, a_packet, Link, request_of, fresh_link, step_at, calls_at, an_input, Move, take_packet}

pub terminal_canonical : (s : Start) → Canonical Central (fresh_terminal s)
unfolding fresh_terminal
terminal_canonical s = switch_canonical _

pub head_canonical : (s : Start) → Canonical Peripheral (fresh_head s)
unfolding fresh_head
head_canonical s = new_canonical _

-- the head takes the request, lists 0x30 and wants its answer
pub first_move :
    (shared : Shared) (s : Start) →
    (L : Link) × Move shared (fresh_link s) an_input L
    × (L.head.calls ≡ call.Ask question.FindBond ∷ [])
    × (L.head.open_step ≡ Some (record { given = a_packet (request_of s); answers = [] }))
    × (L.head.machine ≡ fresh_head s) × (L.head.queue ≡ [])
unfolding fresh_link fresh_head new_machine step_at calls_at step play_of handle_input transition handle_pairing_request
    body_at flag_at
first_move shared s = (
  _,
  take_packet Peripheral (request_of s) [] [] refl refl refl (record { octets = tt; fair = tt }),
  refl,
  refl,
  refl,
  refl,
)
