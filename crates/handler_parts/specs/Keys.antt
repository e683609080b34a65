-- Inner: words between the code's functions; the archive's contracts, demand 3 and the worked cases do not rest on it.
-- The keys that one end distributes: their draws. Assumes nothing.
use Rattle.host_calls.specs.declared.call.Call.TheVariants as call
use Rattle.host_calls.specs.declared.call.Draw.TheVariants as draw
use Rattle.protocol.specs.Program.{ret, ask}
use Rattle.protocol.specs.Ops.{Program}
use Rattle.handler_parts.specs.declared.keys.EncryptionKeys.{EncryptionKeys}

abbrev pub draw_keys : Program EncryptionKeys
draw_keys =
    ask (call.Draw draw.LongTermKey) (λ ltk. ask (call.Draw draw.Ediv) (λ ediv. ask (call.Draw draw.Rand) (λ rand.
    ret (record { ltk = ltk; ediv = ediv; rand = rand }))))
