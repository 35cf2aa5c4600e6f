-- One write after another is one write.
use Rattle.std.proofs.Common.{◌≡◌, ℕ, ◌+◌, ◌*◌, ◌≤◌, List, [], ◌∷◌, ◌++◌, length, take, drop, sym, refl, ap, ◌∙◌, append_assoc, arith, length-append, take-append-drop}
use Rattle.std.proofs.lemmas.List.{drop-drop, drop_at, take_at, length-take-le}
use Rattle.text.specs.declared.put.Writer.{Writer}
use Rattle.text.specs.Writers.{Writes}
use Rattle.text.specs.Answers.{put, Wrote, hex_text}

pub put_then : (xs : List ℕ) (at m : ℕ) (bs cs : List ℕ) → m ≡ at + length bs → at ≤ length xs → put (put xs at bs) m cs ≡ put xs at (bs ++ cs)
put_then xs at m bs cs e h =
    let p : List ℕ = take at xs in
    let d : List ℕ = drop (at + length bs) xs in
    let long : length (p ++ bs) ≡ m = omega (arith, length-append p bs, length-take-le at xs h) in
    let regroup : p ++ (bs ++ d) ≡ (p ++ bs) ++ d = sym (append_assoc p bs d) in
    let front : take m (p ++ (bs ++ d)) ≡ p ++ bs = ap (take m) regroup ∙ take_at (p ++ bs) d m long in
    let count : at + length bs + length cs ≡ at + length (bs ++ cs) = omega (arith, length-append bs cs) in
    let back : drop (m + length cs) (p ++ (bs ++ d)) ≡ drop (at + length (bs ++ cs)) xs =
    sym (drop-drop (length cs) m (p ++ (bs ++ d))) ∙ ap (drop (length cs)) (ap (drop m) regroup ∙ drop_at (p ++ bs) d m long) ∙ drop-drop (length cs) (at + length bs) xs ∙ ap (λ k. drop k xs) count in
    (λ i. front i ++ (cs ++ back i)) ∙ append_assoc p bs (cs ++ drop (at + length (bs ++ cs)) xs) ∙ ap (λ z. p ++ z) (sym (append_assoc bs cs (drop (at + length (bs ++ cs)) xs)))

pub put_none : (xs : List ℕ) (at : ℕ) → xs ≡ put xs at []
put_none xs at = let e : at ≡ at + 0 = omega arith in sym (take-append-drop at xs) ∙ ap (λ m. take at xs ++ drop m xs) e

pub length_hex : (bs : List ℕ) → length (hex_text bs) ≡ 2 * length bs
length_hex [] = refl
length_hex (b ∷ bs) = omega (arith, length_hex bs)

-- one write after another is one write
pub go_on : {xs was new : List ℕ} {at m n : ℕ} {bs cs : List ℕ} → at ≤ length xs → Wrote xs was at m bs → Wrote was new m n cs → Wrote xs new at n (bs ++ cs)
go_on {xs} {was} {new} {at} {m} {n} {bs} {cs} h a b = record {
  len = omega (arith, a.len, b.len, length-append bs cs);
  after = b.after ∙ ap (λ z. put z m cs) a.after ∙ put_then xs at m bs cs a.len h;
}

pub wrote_none : (xs : List ℕ) (at : ℕ) → Wrote xs xs at at []
wrote_none xs at = record { len = omega arith; after = put_none xs at }

pub writes_none : (a : Writer) → Writes a a []
writes_none a = record { same = refl; long = refl; text = wrote_none a.out.now a.at }

pub writes_then : {a b c : Writer} {bs cs : List ℕ} → a.at ≤ length a.out.now → Writes a b bs → Writes b c cs → Writes a c (bs ++ cs)
writes_then h p q = record { same = q.same ∙ p.same; long = q.long ∙ p.long; text = go_on h p.text q.text }
