-- What is known of a packet while several changes are made at once.
use Rattle.std.specs.Prelude.{◌≡◌, refl, ℕ, Bool, true, false, ◌==◌, ◌||◌, not, List, [], if◌then◌else◌}
use Rattle.std.specs.List.{list_any}
use Rattle.ip_spec.specs.Chain.{ExtHeader}
use Rattle.ip_dissect.specs.Fragment.{fragments}
use Rattle.ip_rewrite.specs.Selection.{kept}
use Rattle.ip_rewrite.specs.Without.{is_authentication}
use Rattle.ip_rewrite.specs.Clearing.{has_reserved, reserved_fragmented, reserved_covered}
use Rattle.ip_rewrite.specs.Order.{is_in_order}
use Rattle.ip_rewrite.specs.Request.{cleared_if}
use Rattle.ip_rewrite.specs.Writing.{empty_selection, selection_after, routing_index, rank_at, of_rank_from}
use Rattle.ip_rewrite.specs.declared.request.Request.{Request}
use Rattle.ip_rewrite.specs.declared.plan.Plan.{Plan}
use Rattle.ip_rewrite.specs.declared.writer.Choice.{Choice}

-- what was seen of the headers c for the request r
pub record IsPlan (r : Request) (c : List ExtHeader) (v : Plan) : Type 0 where
  pub selection : v.selection ≡ selection_after (empty_selection r.without) c
  pub set : v.reserved.is_set ≡ list_any has_reserved (kept r.without c)
  pub fragmented : v.reserved.is_set_fragmented ≡ reserved_fragmented false (kept r.without c)
  pub covered : v.reserved.is_set_covered ≡ reserved_covered false (kept r.without c)
  pub authentication : v.contents.has_authentication ≡ list_any is_authentication (kept r.without c)
  pub fragments : v.contents.fragments ≡ list_any fragments (kept r.without c)
  pub routing : v.contents.last_routing ≡ routing_index (kept r.without c)
  pub order : r.orders ≡ true → v.is_in_order ≡ is_in_order (kept r.without c)

-- the header h with the index i is written: headers are written as they come, or by their rank
abbrev pub is_chosen : Choice → ℕ → ExtHeader → Bool
is_chosen v i h = not v.orders || (rank_at v.last_routing i h == v.rank)

-- those of the headers c that are written, as they are written
abbrev pub chosen : Choice → List ExtHeader → List ExtHeader
chosen v c = if v.orders then of_rank_from v.rank v.last_routing 0 (cleared_if v.clears c) else cleared_if v.clears c

-- of no headers, none is written
pub none_chosen : (v : Choice) → chosen v [] ≡ []
none_chosen v = none v.orders v.clears
  where
    none : (orders clears : Bool) → (if orders then of_rank_from v.rank v.last_routing 0 (cleared_if clears []) else cleared_if clears []) ≡ []
    none true true = refl
    none true false = refl
    none false true = refl
    none false false = refl
