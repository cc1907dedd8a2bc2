-- A property that holds if memory ran out.
use Rattle.ipexts_tool.specs.Memory.{IfMemory}
use Rattle.ipexts_tool.specs.declared.tool_error.ToolError.{ToolError}
use Rattle.ipexts_tool.specs.declared.tool_error.ToolError.TheVariants.{Io, Memory}

pub IfMemory-weaker : {P Q : Type 0} (e : ToolError) → (P → Q) → IfMemory e P → IfMemory e Q
IfMemory-weaker (Io e) weaker h = tt
IfMemory-weaker (Memory e) weaker h = weaker h
