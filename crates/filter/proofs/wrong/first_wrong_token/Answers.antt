use Rattle.std.proofs.Common.{◌≡◌, true, false, ◌∙◌, rules}
use Rattle.std.proofs.lemmas.Iterator.{first_from_Range}
use Rattle.filter.specs.Wrong.{token_wrong}
use Rattle.filter.proofs.Firsts.{first_found}
use Rattle.filter.proofs.wrong.first_wrong_token.Goals as goal

pub returns : goal.returns
returns c =
    let wrong = token_wrong c.args.part.now in
    c.unwrap_or.ensures
    ∙ first_found wrong c.args.n c.find.result
    (first_from_Range _ _ _ _ (λ i. wrong i ≡ true) (λ i. wrong i ≡ false) c.find.ensures.ran (λ x q k. search rules) (λ x q k. (search rules, search rules)))
