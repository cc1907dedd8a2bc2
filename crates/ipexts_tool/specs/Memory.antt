-- A property that holds if memory ran out.
use Rattle.std.specs.Prelude.{Result, IfErr, ⊤}
use Rattle.ipexts_tool.specs.declared.tool_error.ToolError.{ToolError}
use Rattle.ipexts_tool.specs.declared.tool_error.ToolError.TheVariants.{Io, Memory}

-- the property, if the error is lack of memory
abbrev pub IfMemory : ToolError → Type 0 → Type 0
IfMemory (Io e) P = ⊤
IfMemory (Memory e) P = P

-- the property, if the call ended for lack of memory
abbrev pub OnMemory : {T : Type 0} → Result T ToolError → Type 0 → Type 0
OnMemory r P = IfErr r (λ e. IfMemory e P)
