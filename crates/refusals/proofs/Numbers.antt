-- Each refusal has a number of its own, and none has 0: so what is told determines the result.
use Prim.Native.Nat.{ℕ, ◌<◌}
use mathlib.Core.Path.{◌≡◌, refl, sym, ap, ◌∙◌}
use mathlib.Core.Bool.{cond}
use lib.Dec.{eqb}
use native.Mathlib.Omega.{arith}
use Rattle.std.specs.Prelude.{Result, Ok, Err}
use Rattle.refusals.specs.Refusal.{number_of, Answer, told, earned}
use Rattle.refusals.specs.Refusal.Answer.{Refused, Given}
use Rattle.refusals.specs.declared.Reason.{Reason}
use Rattle.refusals.specs.declared.Reason.TheVariants.{LinkOrMode, SheetLength, WrongByte, NotOneTree, FarOffset, BigShift, ShortOutput, ShortWork, DeepTree, FarJump, NoEthertype, NoPorts, NoEtherHost, NoEtherMulticast, NoMpls, NoDirection, ComparedWithLoad, DivisionByZero, Modulo, UnknownMagic, OtherLinkType, FileEnds, LongRecord, ManyTokens}
use Rattle.refusals.specs.declared.Refusal.{Refusal}

-- The reason of a number.
reason_of : ℕ → Reason
reason_of n =
    cond (eqb n 1) LinkOrMode (
    cond (eqb n 2) SheetLength (
    cond (eqb n 3) WrongByte (
    cond (eqb n 4) NotOneTree (
    cond (eqb n 5) FarOffset (
    cond (eqb n 6) BigShift (
    cond (eqb n 7) ShortOutput (
    cond (eqb n 8) ShortWork (
    cond (eqb n 9) DeepTree (
    cond (eqb n 10) FarJump (
    cond (eqb n 11) NoEthertype (
    cond (eqb n 12) NoPorts (
    cond (eqb n 13) NoEtherHost (
    cond (eqb n 14) NoEtherMulticast (
    cond (eqb n 15) NoMpls (
    cond (eqb n 16) NoDirection (
    cond (eqb n 17) ComparedWithLoad (
    cond (eqb n 18) DivisionByZero (
    cond (eqb n 19) Modulo (
    cond (eqb n 40) UnknownMagic (
    cond (eqb n 41) OtherLinkType (
    cond (eqb n 42) FileEnds (
    cond (eqb n 43) LongRecord (
    ManyTokens)))))))))))))))))))))))

back : (r : Reason) → reason_of (number_of r) ≡ r
unfolding reason_of
back LinkOrMode = refl
back SheetLength = refl
back WrongByte = refl
back NotOneTree = refl
back FarOffset = refl
back BigShift = refl
back ShortOutput = refl
back ShortWork = refl
back DeepTree = refl
back FarJump = refl
back NoEthertype = refl
back NoPorts = refl
back NoEtherHost = refl
back NoEtherMulticast = refl
back NoMpls = refl
back NoDirection = refl
back ComparedWithLoad = refl
back DivisionByZero = refl
back Modulo = refl
back UnknownMagic = refl
back OtherLinkType = refl
back FileEnds = refl
back LongRecord = refl
back ManyTokens = refl

pub one_reason : (r s : Reason) → number_of r ≡ number_of s → r ≡ s
one_reason r s e = sym (back r) ∙ ap reason_of e ∙ back s

pub above_zero : (r : Reason) → 0 < number_of r
above_zero LinkOrMode = omega arith
above_zero SheetLength = omega arith
above_zero WrongByte = omega arith
above_zero NotOneTree = omega arith
above_zero FarOffset = omega arith
above_zero BigShift = omega arith
above_zero ShortOutput = omega arith
above_zero ShortWork = omega arith
above_zero DeepTree = omega arith
above_zero FarJump = omega arith
above_zero NoEthertype = omega arith
above_zero NoPorts = omega arith
above_zero NoEtherHost = omega arith
above_zero NoEtherMulticast = omega arith
above_zero NoMpls = omega arith
above_zero NoDirection = omega arith
above_zero ComparedWithLoad = omega arith
above_zero DivisionByZero = omega arith
above_zero Modulo = omega arith
above_zero UnknownMagic = omega arith
above_zero OtherLinkType = omega arith
above_zero FileEnds = omega arith
above_zero LongRecord = omega arith
above_zero ManyTokens = omega arith

-- A result is determined by what it tells.
pub one_told : {A : Type 0} (x y : Result A Refusal) → told x ≡ told y → x ≡ y
one_told (Ok a) (Ok b) e = let q : a ≡ b = cc in cc
one_told (Ok a) (Err r) e = cc
one_told (Err r) (Ok b) e = cc
one_told (Err r) (Err s) e =
    let n : number_of r.reason ≡ number_of s.reason = cc in
    let p : r.place ≡ s.place = cc in
    let q : r.reason ≡ s.reason = one_reason r.reason s.reason n in
    λ i. Err (record { reason = q i; place = p i })

-- The same where no place is told and nothing is given.
pub one_earned : (x y : Result (Unit {0}) Reason) → earned x ≡ earned y → x ≡ y
one_earned (Ok u) (Ok v) e = refl
one_earned (Ok u) (Err r) e = absurd (omega (arith, e, above_zero r))
one_earned (Err r) (Ok u) e = absurd (omega (arith, e, above_zero r))
one_earned (Err r) (Err s) e = ap (λ (k : Reason). Err k) (one_reason r s e)
