-- Weaker facts of a value that may be missing.
use Rattle.std.proofs.Common.{Some, None}
use Rattle.std.specs.Prelude.{Option, IfSome, IfNone}

pub if_both : {T : Type 0} (o : Option T) (P Q R : T → Type 0) → ((x : T) → P x → Q x → R x) → IfSome o P → IfSome o Q → IfSome o R
if_both None P Q R f p q = p
if_both (Some x) P Q R f p q = f x p q

pub if_none : {T : Type 0} (o : Option T) (P Q : Type 0) → (P → Q) → IfNone o P → IfNone o Q
if_none None P Q f p = f p
if_none (Some x) P Q f p = p
