-- An array made by a closure.
use Rattle.std.proofs.Common.{◌≡◌, ℕ, zero, suc, ◌+◌, ◌<◌, List, length, get_or, sym, ◌∙◌, subst, arith}
use denote.Param.Members.{Mut}
use Rattle.std.specs.Array.{IsFromFnResult, IsFromFnResultFrom}
use Rattle.std.specs.Fn.{Called}
use Rattle.std.proofs.lemmas.List.{same_lists}

-- an array made by a closure that keeps what it captures has, at each place, what the closure gives there
module _ {F B : Type 0} (g : Mut F (ℕ × Unit {0}) B) (f : F) (h : ℕ → B) (gives : (i : ℕ) (y : B) (q : F) → Called g f (i, tt) y q → (q ≡ f) × (y ≡ h i)) (ys : List B) where
  made_from : (n i j : ℕ) (d : B) → IsFromFnResultFrom g f ys i n → j < n → get_or ys (i + j) d ≡ h (i + j)
  made_from zero i j d m l = absurd (omega (arith, l))
  made_from (suc n) i zero d m l = subst (λ q. get_or ys q d ≡ h q) (let z : i ≡ i + 0 = omega arith in z) (m.2.1 d ∙ (gives i m.1 m.0 m.3).1)
  made_from (suc n) i (suc j) d m l =
      subst (λ q. get_or ys q d ≡ h q) (let z : i + 1 + j ≡ i + suc j = omega arith in z)
      (made_from n (i + 1) j d (subst (λ q. IsFromFnResultFrom g q ys (i + 1) n) (gives i m.1 m.0 m.3).0 m.4) (omega (arith, l)))

  pub made : (n : ℕ) → IsFromFnResult g f ys n → (zs : List B) → length zs ≡ n → ((k : ℕ) (d : B) → k < n → get_or zs k d ≡ h k) → ys ≡ zs
  made n m zs l e = same_lists ys zs (m.long ∙ sym l) (λ k d b. let b' : k < n = omega (arith, b, m.long) in subst (λ q. get_or ys q d ≡ h q) (let z : 0 + k ≡ k = omega arith in z) (made_from n 0 k d m.each b') ∙ sym (e k d b'))
