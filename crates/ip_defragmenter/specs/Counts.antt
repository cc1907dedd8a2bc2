-- Codes of what became of packets, and counts by them.
use Rattle.std.specs.Prelude.{ℕ, ◌+◌, ◌-◌, ◌^◌, min, List, replicate, slice_index, slice_set, Option, Some, None}
use Rattle.ip_reassembly.specs.declared.err.AddError.{AddError}
use Rattle.ip_reassembly.specs.declared.err.AddError.TheVariants.{Unaligned, TooLong, Overlap, TwoEnds, Abandoned}
use Rattle.ip_defragmenter.specs.declared.err.FragmentError.{FragmentError}
use Rattle.ip_defragmenter.specs.declared.err.FragmentError.TheVariants.{Headers, NoLength, Missing}
use Rattle.ip_defragmenter.specs.declared.err.StoreError.{StoreError}
use Rattle.ip_defragmenter.specs.declared.err.StoreError.TheVariants as store
use Rattle.ip_defragmenter.specs.declared.err.StoreError.TheVariants.{Payload, HeadersTooLong, MixedEcn}
use Rattle.ip_defragmenter.specs.declared.outcome.Added.{Added}
use Rattle.ip_defragmenter.specs.declared.outcome.Outcome.{Outcome}
use Rattle.ip_defragmenter.specs.declared.outcome.Outcome.TheVariants.{NotFragment, MoreWanted, Whole, Dropped}
use Rattle.ip_defragmenter.specs.declared.outcome.DropReason.{DropReason}
use Rattle.ip_defragmenter.specs.declared.outcome.DropReason.TheVariants.{Unusable, Refused, NoSlot}
use Rattle.ip_defragmenter.specs.declared.pending.Loss.{Loss}
use Rattle.ip_defragmenter.specs.declared.pending.LossReason.{LossReason}
use Rattle.ip_defragmenter.specs.declared.pending.LossReason.TheVariants.{TimedOut, Displaced}
use Rattle.ip_defragmenter.specs.declared.counts.DefragmenterCounts.{DefragmenterCounts}
use Rattle.ip_defragmenter.specs.declared.fields.AddedFields.{AddedFields}

-- the code of why a fragment can't be used
abbrev pub error_code : FragmentError → ℕ
error_code Headers = 3
error_code NoLength = 4
error_code Missing = 5

-- the code of why a payload refuses a fragment
abbrev pub add_code : AddError → ℕ
add_code Unaligned = 6
add_code TooLong = 7
add_code Overlap = 8
add_code TwoEnds = 9
add_code Abandoned = 10

-- the code of why a memory refuses a fragment
abbrev pub store_error_code : StoreError → ℕ
store_error_code (Payload e) = add_code e
store_error_code store.Headers = 3
store_error_code HeadersTooLong = 11
store_error_code MixedEcn = 13

-- the code of why a fragment was dropped
abbrev pub drop_code : DropReason → ℕ
drop_code (Unusable e) = error_code e
drop_code (Refused e) = store_error_code e
drop_code NoSlot = 12

-- the code of what became of a packet
abbrev pub outcome_code : Outcome → ℕ
outcome_code NotFragment = 0
outcome_code MoreWanted = 1
outcome_code (Whole i) = 2
outcome_code (Dropped r) = drop_code r

-- the code of why a packet was given up
abbrev pub reason_code : LossReason → ℕ
reason_code TimedOut = 1
reason_code Displaced = 2

-- the code of the packet that was given up, 0 if none was
abbrev pub loss_code : Option Loss → ℕ
loss_code None = 0
loss_code (Some l) = reason_code l.reason

-- one more, but at most the largest number of 64 bits
abbrev pub one_more : ℕ → ℕ
one_more n = min (n + 1) (2 ^ 64 - 1)

-- counts of which the one with this index has one more
abbrev pub with_one_more : List ℕ → ℕ → List ℕ
with_one_more counts i = slice_set counts i (one_more (slice_index counts i))

-- counts of no packets
abbrev pub no_counts : DefragmenterCounts
no_counts = record { outcomes = replicate 14 0; losses = replicate 3 0 }

-- the counts after a packet was added
abbrev pub counted : DefragmenterCounts → Added → DefragmenterCounts
counted c a = record {
  outcomes = with_one_more c.outcomes (outcome_code a.outcome);
  losses = with_one_more c.losses (loss_code a.lost);
}

-- the counts after a packet was given up by itself
abbrev pub counted_loss : DefragmenterCounts → Loss → DefragmenterCounts
counted_loss c l = record c { losses = with_one_more c.losses (reason_code l.reason) }

-- the index of a slot, or 0 without one
abbrev pub slot_index : Option ℕ → ℕ
slot_index None = 0
slot_index (Some i) = i

-- what became of a packet, as numbers
abbrev pub added_fields : Added → AddedFields
added_fields a = record { slot = slot_index a.slot; outcome = outcome_code a.outcome; loss = loss_code a.lost }
