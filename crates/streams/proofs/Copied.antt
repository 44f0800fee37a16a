-- What was read or written, where a call was made again, or one after another.
use Rattle.std.proofs.Common.{◌≡◌, ℕ, ◌+◌, ◌≤◌, List, ◌++◌, length, take, drop, None, Some, Option, Ok, Err, Result, sym, ap, subst, ◌∙◌, arith, length-drop, drop_at, length-take-le, le_refl}
use Rattle.std.proofs.Math.Seq.{take-add, take-append-le}
use Rattle.std.proofs.lemmas.Slice.{take-put_mid_below}
use borrow.Rule.Slice.PartMut.{put_mid, post_of}
use Rattle.std.specs.Io.KnownBytes.{Appends, Consumes, Keeps, ReadConsumes, WriteAppends}
use Rattle.std.proofs.KnownBytes.{Appends-trans, Consumes-trans, Keeps-trans}

-- what is read after a call that read nothing
kept-Consumes : (a b c : Option (List ℕ)) (bs : List ℕ) → Keeps a b → Consumes b c bs → Consumes a c bs
kept-Consumes None b c bs same read = tt
kept-Consumes (Some x) None c bs same read = absurd same
kept-Consumes (Some x) (Some y) None bs same read = absurd read
kept-Consumes (Some x) (Some y) (Some z) bs same read = sym same ∙ read

-- what is written after a call that wrote nothing
kept-Appends : (a b c : Option (List ℕ)) (bs : List ℕ) → Keeps a b → Appends b c bs → Appends a c bs
kept-Appends None b c bs same put = tt
kept-Appends (Some x) None c bs same put = absurd same
kept-Appends (Some x) (Some y) None bs same put = absurd put
kept-Appends (Some x) (Some y) (Some z) bs same put = put ∙ ap (λ l. l ++ bs) same

-- what a read does after one that read nothing
pub read_again : {E : Type 0} (a b c : Option (List ℕ)) (r : Result ℕ E) (room : List ℕ) → Keeps a b → ReadConsumes b c r room → ReadConsumes a c r room
read_again a b c (Ok n) room same read = (kept-Consumes a b c (take n room) same read.0, read.1)
read_again a b c (Err e) room same read = Keeps-trans a b c same read

-- what a write does after one that wrote nothing
pub put_again : {E : Type 0} (a b c : Option (List ℕ)) (r : Result ℕ E) (bytes : List ℕ) → Keeps a b → WriteAppends b c r bytes → WriteAppends a c r bytes
put_again a b c (Ok n) bytes same put = kept-Appends a b c (take n bytes) same put
put_again a b c (Err e) bytes same put = Keeps-trans a b c same put

-- what was read before stands at the front of the room, whatever is put behind it
front_kept : (from count : ℕ) (old part : List ℕ) → from ≤ length old → take from (put_mid from count old part) ≡ take from old
front_kept from count old part within = take-put_mid_below _ _ _ _ _ (le_refl _) within

-- the bytes from one place to another, of a list in which others were put from the first place on
read_part : (from count room : ℕ) (old part : List ℕ) → from ≤ length old → count ≤ length part → take count (drop from (put_mid from room old part)) ≡ take count part
read_part from count room old part within fits =
    ap (take count) (drop_at (take from old) (part ++ post_of from room old) from (length-take-le from old within)) ∙ take-append-le count part (post_of from room old) fits

-- what was read before, and what is read then, stand at the front
front_more : (from count room : ℕ) (old part : List ℕ) → from ≤ length old → count ≤ length part → take from old ++ take count part ≡ take (from + count) (put_mid from room old part)
front_more from count room old part within fits =
    let new = put_mid from room old part in
    ap (λ bytes. bytes ++ take count part) (sym (front_kept from room old part within))
    ∙ ap (λ bytes. take from new ++ bytes) (sym (read_part from count room old part within fits))
    ∙ sym (take-add from count new)

-- more was read into the rest of a room
pub filled_more : (a b c : Option (List ℕ)) (from count room : ℕ) (old part : List ℕ) → from ≤ length old → count ≤ length part → Consumes a b (take from old) → Consumes b c (take count part) → Consumes a c (take (from + count) (put_mid from room old part))
filled_more a b c from count room old part within fits before then =
    subst (Consumes a c) (front_more from count room old part within fits) (Consumes-trans a b c _ _ before then)

-- bytes that are delivered bit by bit: so many are out
pub record Delivering (before now : Option (List ℕ)) (bytes : List ℕ) (done : ℕ) : Type 0 where
  pub within : done ≤ length bytes
  pub grown : Appends before now (take done bytes)

-- n bytes more of those that were not out are out
pub delivered_more : (a b c : Option (List ℕ)) (bytes rest : List ℕ) (done n : ℕ) → Delivering a b bytes done → rest ≡ drop done bytes → n ≤ length rest → Appends b c (take n rest) → Delivering a c bytes (done + n)
delivered_more a b c bytes rest done n so_far e fits put =
    let put_here : Appends b c (take n (drop done bytes)) = subst (λ r. Appends b c (take n r)) e put in
    record {
      within = omega (arith, length-drop done bytes, ap length e, so_far.within, fits);
      grown = subst (Appends a c) (sym (take-add done n bytes)) (Appends-trans a b c (take done bytes) (take n (drop done bytes)) so_far.grown put_here);
    }
