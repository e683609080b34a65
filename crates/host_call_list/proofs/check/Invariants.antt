-- `host_call_list::check` meets its contract. Assumes nothing.
use lib.ListN.{length}
use Rattle.host_call_list.proofs.Listing.{Seen}
use Rattle.host_call_list.proofs.check.Given as goal

abbrev pub invariant-loop-kind : goal.invariant-loop-kind
invariant-loop-kind l = Seen l.list l.rest l.index l.count l.call

abbrev pub decreases-loop-kind : goal.decreases-loop-kind
decreases-loop-kind l = length l.rest
