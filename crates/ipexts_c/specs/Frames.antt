-- What filters ask of a frame in plain numbers.
use Rattle.std.specs.Prelude.{ℕ, List, ◌==◌, ◌&&◌, nat_lt, if◌then◌else◌, Option, Some, None}
use Rattle.ip_filter.specs.declared.frame.Frame.{Frame}
use Rattle.ip_frames.specs.declared.frame_fields.FrameFields.{FrameFields}

-- the frame in which these fields were found, of this length on the wire
abbrev pub frame_of : FrameFields → ℕ → Frame
frame_of f len = record {
  wire_len = len;
  ether_type = if (f.number_kind == 1) && nat_lt f.number 65536 then Some f.number else None;
  version = if f.version == 0 then None else Some f.version;
  outer_vlan = if nat_lt 0 f.vlan_count then Some f.first_vlan else None;
  inner_vlan = if nat_lt 1 f.vlan_count then Some f.second_vlan else None;
}

-- the bytes s, if an IP packet was found
abbrev pub packet_in : FrameFields → List ℕ → Option (List ℕ)
packet_in f s = if f.end == 0 then Some s else None
