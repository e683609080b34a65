-- The decimal text of a number is the library's. Assumes nothing.
use Rattle.std.specs.Fmt as std
use Rattle.std.proofs.lemmas.Fmt.{AppendsLastDigit, decimal_from_appends, length-decimal-le_succ}
use mathlib.Core.Path.{◌≡◌}
use Prim.Native.Nat.{ℕ, suc, ◌<◌}
use native.Mathlib.Omega.{arith}
use borrow.Author.Tests.{lt-ltb, le-ltb}
use Rattle.line_writing.specs.AnswerLines.{decimal_in, decimal}

last_digit_last : AppendsLastDigit decimal_in
unfolding decimal_in
last_digit_last = record { one = λ k n h. rw (lt-ltb n 10 h); more = λ k n h. rw (le-ltb n 10 h) }

pub same_decimal : (n : ℕ) → n < 18446744073709551616 → decimal n ≡ std.decimal n
unfolding decimal
same_decimal n h = decimal_from_appends decimal_in last_digit_last (suc n) n h (let l = length-decimal-le_succ n h in omega arith)
