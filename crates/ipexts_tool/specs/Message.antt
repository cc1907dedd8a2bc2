-- The text of an error.
use Rattle.std.specs.Prelude.{ℕ, List, codes}
use Rattle.ipexts_tool.specs.declared.tool_error.ToolError.{ToolError}
use Rattle.ipexts_tool.specs.declared.tool_error.ToolError.TheVariants.{Io, Memory}

abbrev pub message_of : ToolError → List ℕ
message_of (Io e) = codes "input or output failed"
message_of (Memory e) = codes "out of memory"
