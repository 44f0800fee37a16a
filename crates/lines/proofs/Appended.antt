-- One call that adds bytes after another.
use Rattle.std.proofs.Common.{◌≡◌, ℕ, ◌+◌, ◌≤◌, List, [], ◌++◌, length, take, Ok, Err, Result, Vec, vec_items, vec_len, IsErr, sym, ap, ◌∙◌, append-nil, append_assoc, arith, length-append, length-take}
use Rattle.std.proofs.lemmas.List.{take-append-le}
use Rattle.std.specs.declared.alloc.Global.{Global}
use Rattle.lines.specs.Appended.{Appends, HasBegun}

-- nothing is added
pub appends_none : {X E : Type 0} (x : X) (v : Vec ℕ Global) → Appends {E = E} v (Ok x) [] v
appends_none x v = record { added = sym (append-nil (vec_items v)); full = tt; begun = tt; room = omega arith }

-- a first part of some bytes is one of more of them
begun_of_more : {a b : Vec ℕ Global} (s t : List ℕ) → HasBegun a s b → HasBegun a (s ++ t) b
begun_of_more {a} {b} s t begun =
    let long : vec_len b ≤ length (vec_items a ++ s) = omega (arith, ap length begun.holds, b.ok.0, length-take (vec_len b) (vec_items a ++ s)) in
    record {
      kept = begun.kept;
      holds = begun.holds ∙ sym (take-append-le (vec_len b) (vec_items a ++ s) t long) ∙ ap (take (vec_len b)) (append_assoc (vec_items a) s t);
    }

-- where bytes are added, and then a call adds others, both are added as by one call
pub appends_then : {X Y E F : Type 0} {a b c : Vec ℕ Global} {s t : List ℕ} {x : X} (q : Result Y F) → Appends {E = E} a (Ok x) s b → Appends b q t c → Appends a q (s ++ t) c
appends_then {a = a} {b = b} {c = c} {s = s} {t = t} (Ok y) one two =
    record { added = two.added ∙ ap (λ xs. xs ++ t) one.added ∙ append_assoc (vec_items a) s t; full = tt; begun = tt; room = omega (arith, one.room, two.room) }
appends_then {a = a} {b = b} {c = c} {s = s} {t = t} (Err f) one two =
    let long : vec_len b ≡ vec_len a + length s = omega (arith, ap length one.added, a.ok.0, b.ok.0, length-append (vec_items a) s) in
    record {
      added = tt;
      full = simp length-append (omega (arith, one.room, two.full));
      begun = record { kept = omega (arith, two.begun.kept); holds = two.begun.holds ∙ ap (take (vec_len c)) (ap (λ xs. xs ++ t) one.added ∙ append_assoc (vec_items a) s t) };
      room = omega (arith, one.room, two.room);
    }

-- where a call fails, nothing more is added
pub appends_stop : {X Y E F : Type 0} {a b : Vec ℕ Global} {s : List ℕ} (t : List ℕ) {e : E} (q : Result Y F) → IsErr q → Appends {X = X} a (Err e) s b → Appends a q (s ++ t) b
appends_stop {s = s} t (Ok y) is one = absurd (cc)
appends_stop {s = s} t (Err f) is one =
    record { added = tt; full = simp length-append (omega (arith, one.full)); begun = begun_of_more s t one.begun; room = one.room }
