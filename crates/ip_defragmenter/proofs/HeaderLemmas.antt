-- The headers of a first fragment, in a short array or in a long one.
use Rattle.std.proofs.Common.{◌≡◌, ℕ, ◌≤◌, ◌<◌, ◌&&◌, List, take, length, leb, sym, ◌∙◌, inl, inr}
use Rattle.std.specs.Prelude.{Some, None}
use Rattle.std.proofs.lemmas.Bool.{cond-true, cond-false, cases_Bool, le-leb, lt-leb}
use Rattle.std.proofs.lemmas.Option.{same_Some, none-some}
use Rattle.ip_reassembly.specs.Reassembly.{is_set}
use Rattle.ip_defragmenter.specs.Memory.{FirstParts, kept_headers, first_in}
use Rattle.ip_defragmenter.specs.declared.memory.PacketMemory.{PacketMemory}

pub in_short : (n : ℕ) (short long : List ℕ) → n ≤ 64 → kept_headers n short long ≡ take n short
unfolding kept_headers
in_short n short long fits = cond-true (leb n 64) (take n short) (take n long) (le-leb n 64 fits)

pub in_long : (n : ℕ) (short long : List ℕ) → 64 < n → kept_headers n short long ≡ take n long
unfolding kept_headers
in_long n short long more = cond-false (leb n 64) (take n short) (take n long) (lt-leb n 64 more)

-- what the memory has of its first fragment
abbrev pub parts_in : PacketMemory → FirstParts
parts_in m = record { headers = kept_headers m.head_len m.short_head m.head; link = m.link; number = m.next_header }

pub first_is : (m : PacketMemory) (f : FirstParts) → first_in m ≡ Some f → parts_in m ≡ f
first_is m f e = elim (cases_Bool (is_set m.first_here && leb m.head_len (length m.head))) [
  | inl there ↦ same_Some (parts_in m) f (sym (cond-true (is_set m.first_here && leb m.head_len (length m.head)) (Some (parts_in m)) None there) ∙ e)
  | inr none ↦ absurd (none-some f (sym (cond-false (is_set m.first_here && leb m.head_len (length m.head)) (Some (parts_in m)) None none) ∙ e))
]
