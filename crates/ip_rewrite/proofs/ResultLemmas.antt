-- Results of tests that are made one after the other.
use Rattle.ip_spec.proofs.Common.{◌≡◌, refl, Option, None, option_or, Result, Ok, Err}
use Rattle.std.specs.Prelude.{OnOk, IfOk}

pub weaker : {X E : Type 0} (P Q : X → Type 0) (r : Result X E) → ((x : X) → P x → Q x) → IfOk r P → IfOk r Q
weaker P Q (Ok x) f p = f x p
weaker P Q (Err e) f p = tt

pub on_ok : {X E : Type 0} {P : Type 0} (r : Result X E) → P → OnOk r P
on_ok (Ok x) p = p
on_ok (Err e) p = tt

pub all_none : {E : Type 0} (a b c r : Option E) → a ≡ None → b ≡ None → c ≡ None → option_or a (option_or b (option_or c r)) ≡ r
all_none a b c r none also third = rw (none, also, third) refl

pub four_none : {E : Type 0} (a b c d r : Option E) → a ≡ None → b ≡ None → c ≡ None → d ≡ None → option_or a (option_or b (option_or c (option_or d r))) ≡ r
four_none a b c d r none also third fourth = rw (none, also, third, fourth) refl
