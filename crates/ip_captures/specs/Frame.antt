-- What a frame says.
use Rattle.std.specs.Prelude.{ℕ, List, Option}
use Rattle.ip_captures.specs.declared.frame.Frame.{Frame}

-- a frame's bytes and fields
pub record FrameContents : Type 0 where
  pub captured : List ℕ
  pub original_len : ℕ
  pub time : Option ℕ
  pub interface : ℕ
  pub link_type : ℕ
  pub record_len : ℕ

abbrev pub contents : Frame → FrameContents
contents f = record {
  captured = f.captured.now;
  original_len = f.original_len;
  time = f.time;
  interface = f.interface;
  link_type = f.link_type;
  record_len = f.record_len;
}
