use Rattle.wl_settings.proofs.SettingLists.{listed_is_setting, setting_is_listed}
use Rattle.wl_settings.proofs.laws.all_settings_are_listed.Goals as goal

pub returns : goal.returns
returns c = λ a d s. (listed_is_setting a d s, λ is. setting_is_listed a d s is.0 is.1)
