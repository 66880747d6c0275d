-- What was read is what is spelled, by the laws of lines.
use Rattle.std.proofs.Common.{◌<◌, ◌^◌, length, arith, rules}
use Rattle.ts_commit.proofs.LineLaws.{names_found, names_only, names_cut}
use Rattle.ts_commit.proofs.lines.decode_vac.Goals as goal

pub returns-clause-found : goal.returns-clause-found
returns-clause-found c = names_found (λ names. names) _ _ (λ i. omega (arith, c.type_inv.object i)) c.read_names.ensures

pub returns-clause-only : goal.returns-clause-only
returns-clause-only c names are same =
    let few : length c.args.object.now < 2 ^ 64 = search rules in
    names_only (λ names. names) _ _ few c.read_names.ensures names are same

pub returns-clause-cut : goal.returns-clause-cut
returns-clause-cut c names few cut = names_cut (λ names. names) _ _ c.read_names.ensures names few cut
